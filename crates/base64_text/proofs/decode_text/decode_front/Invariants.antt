use Rattle.base64_text.proofs.decode_text.decode_front.Given as goal

-- the count is of a ledger of its own
abbrev pub ghosts-front_counted : goal.ghosts-front_counted
ghosts-front_counted g a = record { name = a.blank.name; parts = a.blank.parts }
