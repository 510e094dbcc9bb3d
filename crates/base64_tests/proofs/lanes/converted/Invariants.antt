use Rattle.base64_tests.proofs.lanes.converted.Given as goal

-- the count is of a ledger of its own
abbrev pub ghosts-converted_from : goal.ghosts-converted_from
ghosts-converted_from g a = record { name = a.blank.name; parts = a.blank.parts }
