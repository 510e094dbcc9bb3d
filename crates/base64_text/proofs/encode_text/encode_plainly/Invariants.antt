use Rattle.base64_text.proofs.encode_text.encode_plainly.Given as goal

-- the count is of a ledger of its own
abbrev pub ghosts-encode_from : goal.ghosts-encode_from
ghosts-encode_from g a = record { name = a.blank.name; parts = a.blank.parts }
