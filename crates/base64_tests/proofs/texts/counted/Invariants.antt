use Rattle.base64_tests.proofs.texts.counted.Given as goal

-- the count is of a ledger of its own
abbrev pub ghosts-counted_from : goal.ghosts-counted_from
ghosts-counted_from g a = record { name = a.blank.name; parts = a.blank.parts }
