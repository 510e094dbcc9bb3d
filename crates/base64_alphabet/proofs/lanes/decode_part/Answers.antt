use Rattle.std.proofs.Common.{◌≡◌, map, ap, ◌∙◌, true, length, take, arith}
use Rattle.std.proofs.lemmas.List.{length-take-le}
use Rattle.std.specs.Simd.Lanes.{all_below}
use Rattle.base64_alphabet.specs.Table.{place_of}
use Rattle.base64_alphabet.specs.Lanes.{low_byte, bytes_of_digits}
use Rattle.base64_alphabet.proofs.TableLemmas.{facts}
use Rattle.base64_alphabet.proofs.PartsLemmas.{all_below_are_in, digits_are_blocks}
use Rattle.base64_alphabet.proofs.lanes.decode_part.Goals as goal

pub returns-clause-answer : goal.returns-clause-answer
returns-clause-answer g c =
    let len = (facts g.E.Alphabet.form.table g.met.E.Alphabet.lawful).len in
    c.are_places.ensures ∙ ap (all_below 64) (c.places_32-places.ensures.places
    ∙ ap (map (λ x. low_byte (place_of g.E.Alphabet.form.table x))) c.copy_from_slice.ensures.after)
    ∙ all_below_are_in g.E.Alphabet.form.table c.args.src.now len

pub returns-clause-written : goal.returns-clause-written
returns-clause-written g c h =
    let len = (facts g.E.Alphabet.form.table g.met.E.Alphabet.lawful).len in
    let places = c.places_32-places.ensures.places ∙ ap (map (λ x. low_byte (place_of g.E.Alphabet.form.table x))) c.copy_from_slice.ensures.after in
    let low : all_below 64 c.places_32-places.result ≡ true = ap (all_below 64) places ∙ all_below_are_in g.E.Alphabet.form.table c.args.src.now len ∙ h in
    c.copy_from_slice-2.ensures.after ∙ c.grouped.ensures.bytes low ∙ ap (bytes_of_digits g.E.Alphabet.form.end) places
    ∙ digits_are_blocks g.E.Alphabet.form.end g.E.Alphabet.form.table c.args.src.now len h

pub copy_from_slice-requires-2 : goal.copy_from_slice-requires-2
copy_from_slice-requires-2 g c =
    let len = c.grouped.ensures.len in
    let cut : length (take 24 c.grouped.result) ≡ 24 = length-take-le 24 c.grouped.result (omega arith) in
    let room = c.requires.room in
    omega arith
