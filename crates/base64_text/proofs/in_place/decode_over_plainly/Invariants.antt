use Rattle.base64_text.proofs.in_place.decode_over_plainly.Given as goal

-- the count is of a ledger of its own
abbrev pub ghosts-decode_over_from : goal.ghosts-decode_over_from
ghosts-decode_over_from g a = record { name = a.blank.name; parts = a.blank.parts }
