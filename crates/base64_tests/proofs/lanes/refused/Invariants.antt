use Rattle.base64_tests.proofs.lanes.refused.Given as goal

-- the count is of a ledger of its own
abbrev pub ghosts-refused_from : goal.ghosts-refused_from
ghosts-refused_from g a = record { name = a.blank.name; parts = a.blank.parts }
