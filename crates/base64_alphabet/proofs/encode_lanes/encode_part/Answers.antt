use Rattle.std.proofs.Common.{◌≡◌, ◌++◌, length, replicate, slice_index, take, map, ap, ◌∙◌}
use Rattle.std.proofs.lemmas.List.{take_at}
use Rattle.base64_alphabet.specs.Lanes.{digits_of_bytes}
use Rattle.base64_alphabet.proofs.DigitsLemmas.{digits_are_characters}
use Rattle.base64_alphabet.proofs.encode_lanes.encode_part.Goals as goal

pub returns-clause-written : goal.returns-clause-written
returns-clause-written g c =
    let len : length c.copy_from_slice.new.self ≡ 24 = ap length c.copy_from_slice.ensures.after ∙ c.requires.bytes in
    let first : take 24 (c.copy_from_slice.new.self ++ replicate 8 0) ≡ c.args.src.now = take_at c.copy_from_slice.new.self (replicate 8 0) 24 len
    ∙ c.copy_from_slice.ensures.after in
    c.copy_from_slice-2.ensures.after ∙ c.characters_32.ensures.characters
    ∙ ap (map (slice_index g.E.Alphabet.form.table)) (c.digits_32-digits.ensures.digits ∙ ap (digits_of_bytes g.E.Alphabet.form.end) first)
    ∙ digits_are_characters g.E.Alphabet.form.end g.E.Alphabet.form.table 8 c.args.src.now c.requires.bytes
