use Rattle.std.proofs.Common.{◌≡◌, ℕ, ◌-◌, ◌*◌, ◌/◌, ◌%◌, ◌&&◌, ◌==◌, ◌++◌, not, Bool, true, false, List, length, take, drop, slice_range, replicate}
use Rattle.std.proofs.Common.{arith, sym, ◌∙◌}
use Rattle.std.proofs.Common.{ap, sym, ◌∙◌, refl, subst, length-drop}
use Rattle.std.proofs.lemmas.Bool.{and_parts, both_ways}
use Rattle.std.proofs.lemmas.Grind.{common_steps}
use Rattle.std.proofs.lemmas.List.{length-take-le}
use Rattle.base64_alphabet.specs.Table.{all_in}
use Rattle.base64_alphabet.specs.Encoding.{bytes_of_blocks}
use Rattle.base64_text.specs.Canonical.{HasWholeBlocks, unpadded_len, is_clean}
use Rattle.base64_text.proofs.LooseLemmas.{clean_parts, loose_parts, unpadded_le, written_front}
use Rattle.base64_text.proofs.in_place.decode_over.Goals as goal

pub returns-then-good-rest-clause-clean : goal.returns-then-good-rest-clause-clean
returns-then-good-rest-clause-clean g c =
    let u : c.count_unpadded-u.result ≡ unpadded_len g.E.Alphabet.form.padded c.args.buf.now = c.count_unpadded-u.ensures.value
    ∙ ap (λ (p : Bool). unpadded_len p c.args.buf.now) (c.PADDED-2.ensures ∙ sym g.met.E.Alphabet.tells_padding) in
    let whole : HasWholeBlocks g.E.Alphabet.form.padded c.args.buf.now = rw (g.met.E.Alphabet.tells_padding, ← c.PADDED.ensures)
    (c.has_whole_blocks.ensures.yes c.if-not-has_whole_blocks.false) in
    let le = unpadded_le g.E.Alphabet.form.padded c.args.buf.now in
    let behind : slice_range c.args.buf.now c.count_unpadded-u.result (length c.args.buf.now) ≡ drop c.count_unpadded-u.result c.args.buf.now =
    grind (arith, common_steps) in
    let rest : slice_range c.decode_blocks_over-good.new.buf (4 * (c.count_unpadded-u.result / 4)) c.count_unpadded-u.result
    ≡ (take (c.count_unpadded-u.result - 4 * (c.count_unpadded-u.result / 4)) (drop (4 * (c.count_unpadded-u.result / 4)) c.args.buf.now)) =
    ap (take (c.count_unpadded-u.result - 4 * (c.count_unpadded-u.result / 4))) c.decode_blocks_over-good.ensures.rest in
    let good : c.decode_rest-rest.result.1 ≡ (all_in g.E.Alphabet.form.table
    (take (c.count_unpadded-u.result - 4 * (c.count_unpadded-u.result / 4)) (drop (4 * (c.count_unpadded-u.result / 4)) c.args.buf.now)) && not
    (length (take (c.count_unpadded-u.result - 4 * (c.count_unpadded-u.result / 4)) (drop (4 * (c.count_unpadded-u.result / 4)) c.args.buf.now)) == 1))
    = c.decode_rest-rest.ensures.good ∙ ap (λ (xs : List ℕ). all_in g.E.Alphabet.form.table xs && not (length xs == 1)) rest in
    let parts : (c.decode_blocks_over-good.result && c.decode_rest-rest.result.1 && c.is_padding-padding.result)
    ≡ is_clean g.E.Alphabet.form.table g.E.Alphabet.form.padded c.args.buf.now
    = rw (c.decode_blocks_over-good.ensures.answer, good, c.is_padding-padding.ensures, behind)
    (clean_parts g.E.Alphabet.form.table c.args.buf.now g.E.Alphabet.form.padded c.count_unpadded-u.result
    (take (c.count_unpadded-u.result - 4 * (c.count_unpadded-u.result / 4)) (drop (4 * (c.count_unpadded-u.result / 4)) c.args.buf.now)) u whole refl) in
    (λ _. sym parts ∙ c.if-good-rest.true, λ _. refl)

pub returns-else-good-rest-clause-clean : goal.returns-else-good-rest-clause-clean
returns-else-good-rest-clause-clean g c =
    let u : c.count_unpadded-u.result ≡ unpadded_len g.E.Alphabet.form.padded c.args.buf.now = c.count_unpadded-u.ensures.value
    ∙ ap (λ (p : Bool). unpadded_len p c.args.buf.now) (c.PADDED-2.ensures ∙ sym g.met.E.Alphabet.tells_padding) in
    let whole : HasWholeBlocks g.E.Alphabet.form.padded c.args.buf.now = rw (g.met.E.Alphabet.tells_padding, ← c.PADDED.ensures)
    (c.has_whole_blocks.ensures.yes c.if-not-has_whole_blocks.false) in
    let le = unpadded_le g.E.Alphabet.form.padded c.args.buf.now in
    let behind : slice_range c.args.buf.now c.count_unpadded-u.result (length c.args.buf.now) ≡ drop c.count_unpadded-u.result c.args.buf.now =
    grind (arith, common_steps) in
    let rest : slice_range c.decode_blocks_over-good.new.buf (4 * (c.count_unpadded-u.result / 4)) c.count_unpadded-u.result
    ≡ (take (c.count_unpadded-u.result - 4 * (c.count_unpadded-u.result / 4)) (drop (4 * (c.count_unpadded-u.result / 4)) c.args.buf.now)) =
    ap (take (c.count_unpadded-u.result - 4 * (c.count_unpadded-u.result / 4))) c.decode_blocks_over-good.ensures.rest in
    let good : c.decode_rest-rest.result.1 ≡ (all_in g.E.Alphabet.form.table
    (take (c.count_unpadded-u.result - 4 * (c.count_unpadded-u.result / 4)) (drop (4 * (c.count_unpadded-u.result / 4)) c.args.buf.now)) && not
    (length (take (c.count_unpadded-u.result - 4 * (c.count_unpadded-u.result / 4)) (drop (4 * (c.count_unpadded-u.result / 4)) c.args.buf.now)) == 1))
    = c.decode_rest-rest.ensures.good ∙ ap (λ (xs : List ℕ). all_in g.E.Alphabet.form.table xs && not (length xs == 1)) rest in
    let parts : (c.decode_blocks_over-good.result && c.decode_rest-rest.result.1 && c.is_padding-padding.result)
    ≡ is_clean g.E.Alphabet.form.table g.E.Alphabet.form.padded c.args.buf.now
    = rw (c.decode_blocks_over-good.ensures.answer, good, c.is_padding-padding.ensures, behind)
    (clean_parts g.E.Alphabet.form.table c.args.buf.now g.E.Alphabet.form.padded c.count_unpadded-u.result
    (take (c.count_unpadded-u.result - 4 * (c.count_unpadded-u.result / 4)) (drop (4 * (c.count_unpadded-u.result / 4)) c.args.buf.now)) u whole refl) in
    (λ (h : false ≡ true). cc, λ h. absurd (both_ways _ c.if-good-rest.false (parts ∙ h)))

pub returns-then-good-rest-clause-bytes : goal.returns-then-good-rest-clause-bytes
returns-then-good-rest-clause-bytes g c =
    let u : c.count_unpadded-u.result ≡ unpadded_len g.E.Alphabet.form.padded c.args.buf.now = c.count_unpadded-u.ensures.value
    ∙ ap (λ (p : Bool). unpadded_len p c.args.buf.now) (c.PADDED-2.ensures ∙ sym g.met.E.Alphabet.tells_padding) in
    let whole : HasWholeBlocks g.E.Alphabet.form.padded c.args.buf.now = rw (g.met.E.Alphabet.tells_padding, ← c.PADDED.ensures)
    (c.has_whole_blocks.ensures.yes c.if-not-has_whole_blocks.false) in
    let le = unpadded_le g.E.Alphabet.form.padded c.args.buf.now in
    let behind : slice_range c.args.buf.now c.count_unpadded-u.result (length c.args.buf.now) ≡ drop c.count_unpadded-u.result c.args.buf.now =
    grind (arith, common_steps) in
    let rest : slice_range c.decode_blocks_over-good.new.buf (4 * (c.count_unpadded-u.result / 4)) c.count_unpadded-u.result
    ≡ (take (c.count_unpadded-u.result - 4 * (c.count_unpadded-u.result / 4)) (drop (4 * (c.count_unpadded-u.result / 4)) c.args.buf.now)) =
    ap (take (c.count_unpadded-u.result - 4 * (c.count_unpadded-u.result / 4))) c.decode_blocks_over-good.ensures.rest in
    let good : c.decode_rest-rest.result.1 ≡ (all_in g.E.Alphabet.form.table
    (take (c.count_unpadded-u.result - 4 * (c.count_unpadded-u.result / 4)) (drop (4 * (c.count_unpadded-u.result / 4)) c.args.buf.now)) && not
    (length (take (c.count_unpadded-u.result - 4 * (c.count_unpadded-u.result / 4)) (drop (4 * (c.count_unpadded-u.result / 4)) c.args.buf.now)) == 1))
    = c.decode_rest-rest.ensures.good ∙ ap (λ (xs : List ℕ). all_in g.E.Alphabet.form.table xs && not (length xs == 1)) rest in
    let parts : (c.decode_blocks_over-good.result && c.decode_rest-rest.result.1 && c.is_padding-padding.result)
    ≡ is_clean g.E.Alphabet.form.table g.E.Alphabet.form.padded c.args.buf.now
    = rw (c.decode_blocks_over-good.ensures.answer, good, c.is_padding-padding.ensures, behind)
    (clean_parts g.E.Alphabet.form.table c.args.buf.now g.E.Alphabet.form.padded c.count_unpadded-u.result
    (take (c.count_unpadded-u.result - 4 * (c.count_unpadded-u.result / 4)) (drop (4 * (c.count_unpadded-u.result / 4)) c.args.buf.now)) u whole refl) in
    let first = (and_parts (c.decode_blocks_over-good.result && c.decode_rest-rest.result.1) c.is_padding-padding.result c.if-good-rest.true).0 in
    let two = and_parts c.decode_blocks_over-good.result c.decode_rest-rest.result.1 first in
    let in_table : all_in g.E.Alphabet.form.table (take (c.count_unpadded-u.result - 4 * (c.count_unpadded-u.result / 4))
    (drop (4 * (c.count_unpadded-u.result / 4)) c.args.buf.now))
    ≡ true = (and_parts (all_in g.E.Alphabet.form.table (take (c.count_unpadded-u.result - 4 * (c.count_unpadded-u.result / 4))
    (drop (4 * (c.count_unpadded-u.result / 4)) c.args.buf.now)))
    (not (length (take (c.count_unpadded-u.result - 4 * (c.count_unpadded-u.result / 4))
    (drop (4 * (c.count_unpadded-u.result / 4)) c.args.buf.now)) == 1)) (sym good ∙ two.1)).0 in
    let l = length-drop (4 * (c.count_unpadded-u.result / 4)) c.args.buf.now in
    let size : length (take (c.count_unpadded-u.result - 4 * (c.count_unpadded-u.result / 4)) (drop (4 * (c.count_unpadded-u.result / 4)) c.args.buf.now))
    ≡ c.count_unpadded-u.result % 4 = length-take-le (c.count_unpadded-u.result - 4 * (c.count_unpadded-u.result / 4))
    (drop (4 * (c.count_unpadded-u.result / 4)) c.args.buf.now) (omega arith) ∙ omega arith in
    let taken : take (3 * length (take (c.count_unpadded-u.result - 4 * (c.count_unpadded-u.result / 4))
    (drop (4 * (c.count_unpadded-u.result / 4)) c.args.buf.now)) / 4) c.decode_rest-rest.result.0
    ≡ take (3 * length (take (c.count_unpadded-u.result - 4 * (c.count_unpadded-u.result / 4))
    (drop (4 * (c.count_unpadded-u.result / 4)) c.args.buf.now)) / 4)
    (bytes_of_blocks g.E.Alphabet.form.end g.E.Alphabet.form.table
    ((take (c.count_unpadded-u.result - 4 * (c.count_unpadded-u.result / 4)) (drop (4 * (c.count_unpadded-u.result / 4)) c.args.buf.now))
    ++ replicate (4 - length (take (c.count_unpadded-u.result - 4 * (c.count_unpadded-u.result / 4))
    (drop (4 * (c.count_unpadded-u.result / 4)) c.args.buf.now))) 65))
    = subst (λ (xs : List ℕ). all_in g.E.Alphabet.form.table xs ≡ true
    → take (3 * length xs / 4) c.decode_rest-rest.result.0
    ≡ take (3 * length xs / 4) (bytes_of_blocks g.E.Alphabet.form.end g.E.Alphabet.form.table (xs ++ replicate (4 - length xs) 65)))
    rest c.decode_rest-rest.ensures.written in_table in
    let written : take (3 * (c.count_unpadded-u.result % 4) / 4) c.decode_rest-rest.result.0
    ≡ take (3 * (c.count_unpadded-u.result % 4) / 4)
    (bytes_of_blocks g.E.Alphabet.form.end g.E.Alphabet.form.table
    ((take (c.count_unpadded-u.result - 4 * (c.count_unpadded-u.result / 4)) (drop (4 * (c.count_unpadded-u.result / 4)) c.args.buf.now))
    ++ replicate (4 - length (take (c.count_unpadded-u.result - 4 * (c.count_unpadded-u.result / 4))
    (drop (4 * (c.count_unpadded-u.result / 4)) c.args.buf.now))) 65))
    = subst (λ (n : ℕ). take (3 * n / 4) c.decode_rest-rest.result.0
    ≡ take (3 * n / 4) (bytes_of_blocks g.E.Alphabet.form.end g.E.Alphabet.form.table
    ((take (c.count_unpadded-u.result - 4 * (c.count_unpadded-u.result / 4)) (drop (4 * (c.count_unpadded-u.result / 4)) c.args.buf.now))
    ++ replicate (4 - length (take (c.count_unpadded-u.result - 4 * (c.count_unpadded-u.result / 4))
    (drop (4 * (c.count_unpadded-u.result / 4)) c.args.buf.now))) 65))) size taken in
    let kept = c.decode_blocks_over-good.auto.buf in
    let len : length (take (3 * (c.count_unpadded-u.result % 4) / 4) c.decode_rest-rest.result.0) ≡ 3 * (c.count_unpadded-u.result % 4) / 4 =
    length-take-le (3 * (c.count_unpadded-u.result % 4) / 4) c.decode_rest-rest.result.0 (omega arith) in
    written_front g.E.Alphabet.form.end g.E.Alphabet.form.table c.args.buf.now c.decode_blocks_over-good.new.buf c.copy_from_slice.new.self
    (take (3 * (c.count_unpadded-u.result % 4) / 4) c.decode_rest-rest.result.0)
    (c.count_unpadded-u.result / 4) (3 * (c.count_unpadded-u.result % 4) / 4) (omega arith) (omega arith)
    (c.decode_blocks_over-good.ensures.written (sym c.decode_blocks_over-good.ensures.answer ∙ two.0)) c.copy_from_slice.ensures.after len
    ∙ ap (λ (xs : List ℕ). bytes_of_blocks g.E.Alphabet.form.end g.E.Alphabet.form.table (take (4 * (c.count_unpadded-u.result / 4)) c.args.buf.now) ++ xs)
    written
    ∙ sym (loose_parts g.E.Alphabet.form.end g.E.Alphabet.form.table c.args.buf.now g.E.Alphabet.form.padded c.count_unpadded-u.result
    (take (c.count_unpadded-u.result - 4 * (c.count_unpadded-u.result / 4)) (drop (4 * (c.count_unpadded-u.result / 4)) c.args.buf.now)) u refl)
