use Rattle.base64_text.proofs.encode_text.encode_front.Given as goal

-- the count is of a ledger of its own
abbrev pub ghosts-front_from : goal.ghosts-front_from
ghosts-front_from g a = record { name = a.blank.name; parts = a.blank.parts }
