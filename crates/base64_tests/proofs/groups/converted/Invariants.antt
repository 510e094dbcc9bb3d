use Rattle.base64_tests.proofs.groups.converted.Given as goal

-- the count is of a ledger of its own
abbrev pub ghosts-there_and_back : goal.ghosts-there_and_back
ghosts-there_and_back g a = record { name = a.blank.name; parts = a.blank.parts }
