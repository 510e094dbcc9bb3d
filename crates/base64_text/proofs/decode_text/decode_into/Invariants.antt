use Rattle.base64_text.proofs.decode_text.decode_into.Given as goal

-- the count is of a ledger of its own
abbrev pub ghosts-decode_from : goal.ghosts-decode_from
ghosts-decode_from g a = record { name = a.blank.name; parts = a.blank.parts }
