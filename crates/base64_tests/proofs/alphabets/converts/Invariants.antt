use Rattle.base64_tests.proofs.alphabets.converts.Given as goal

-- the count is of a ledger of its own
abbrev pub ghosts-converts_counting : goal.ghosts-converts_counting
ghosts-converts_counting g a = record { name = a.blank.name; parts = a.blank.parts }
