use Rattle.std.proofs.Common.{◌≡◌, ℕ, ◌-◌, ◌*◌, ◌/◌, ◌%◌, ◌&&◌, ◌==◌, not, ◌++◌, replicate, subst, List, length, take, drop, slice_range, arith, ap, sym, ◌∙◌}
use Rattle.std.proofs.Common.{refl, length-drop}
use Rattle.std.proofs.lemmas.Bool.{and_parts}
use Rattle.std.proofs.lemmas.Grind.{common_steps}
use Rattle.std.proofs.lemmas.List.{length-take-le}
use Rattle.base64_alphabet.specs.Table.{all_in}
use Rattle.base64_alphabet.specs.Encoding.{bytes_of_blocks}
use Rattle.base64_text.specs.Canonical.{all_pads}
use Rattle.base64_text.proofs.LooseLemmas.{clean_parts, loose_parts, unpadded_le}
use Rattle.base64_text.proofs.WholeLemmas.{written_text}
use Rattle.base64_text.proofs.RestLemmas.{rest_kept}
use Rattle.base64_text.proofs.loose.decode_loose.Goals as goal

pub returns-clause-clean : goal.returns-clause-clean
returns-clause-clean g c =
    let u : ℕ = c.args.u in
    let rest : List ℕ = slice_range c.args.src.now (4 * (u / 4)) u in
    let cut : slice_range c.args.src.now (4 * (c.args.u / 4)) c.args.u ≡ take (c.args.u - 4 * (c.args.u / 4)) (drop (4 * (c.args.u / 4)) c.args.src.now) =
    refl in
    let le = unpadded_le g.E.Alphabet.form.padded c.args.src.now in
    let is = c.requires.unpadded in
    let behind : slice_range c.args.src.now c.args.u (length c.args.src.now) ≡ drop c.args.u c.args.src.now = grind (arith, common_steps) in
    rw (c.decode_blocks-good.ensures.answer, c.decode_rest-rest_good.ensures.good, c.is_padding.ensures, behind)
    (clean_parts g.E.Alphabet.form.table c.args.src.now g.E.Alphabet.form.padded c.args.u (slice_range c.args.src.now (4 * (c.args.u / 4)) c.args.u)
    c.requires.unpadded c.requires.whole cut)

pub returns-clause-written : goal.returns-clause-written
returns-clause-written g c clean =
    let le = unpadded_le g.E.Alphabet.form.padded c.args.src.now in
    let is = c.requires.unpadded in
    let cut : slice_range c.args.src.now (4 * (c.args.u / 4)) c.args.u ≡ take (c.args.u - 4 * (c.args.u / 4)) (drop (4 * (c.args.u / 4)) c.args.src.now) =
    refl in
    let parts = sym (clean_parts g.E.Alphabet.form.table c.args.src.now g.E.Alphabet.form.padded c.args.u
    (slice_range c.args.src.now (4 * (c.args.u / 4)) c.args.u)
    c.requires.unpadded c.requires.whole cut) in
    let first = (and_parts (all_in g.E.Alphabet.form.table (take (4 * (c.args.u / 4)) c.args.src.now) &&
    (all_in g.E.Alphabet.form.table (slice_range c.args.src.now (4 * (c.args.u / 4)) c.args.u) && not
    (length (slice_range c.args.src.now (4 * (c.args.u / 4)) c.args.u) == 1)))
    (all_pads (drop c.args.u c.args.src.now)) (sym parts ∙ clean)).0 in
    let two = and_parts (all_in g.E.Alphabet.form.table (take (4 * (c.args.u / 4)) c.args.src.now))
    (all_in g.E.Alphabet.form.table (slice_range c.args.src.now (4 * (c.args.u / 4)) c.args.u) && not
    (length (slice_range c.args.src.now (4 * (c.args.u / 4)) c.args.u) == 1)) first in
    let good = (and_parts (all_in g.E.Alphabet.form.table (slice_range c.args.src.now (4 * (c.args.u / 4)) c.args.u))
    (not (length (slice_range c.args.src.now (4 * (c.args.u / 4)) c.args.u) == 1)) two.1).0 in
    let l = length-drop (4 * (c.args.u / 4)) c.args.src.now in
    let size : length (slice_range c.args.src.now (4 * (c.args.u / 4)) c.args.u) ≡ c.args.u % 4 =
    length-take-le (c.args.u - 4 * (c.args.u / 4)) (drop (4 * (c.args.u / 4)) c.args.src.now) (omega arith) ∙ omega arith in
    let written : take (3 * (c.args.u % 4) / 4) c.decode_rest-rest_good.result.0
    ≡ take (3 * (c.args.u % 4) / 4) (bytes_of_blocks g.E.Alphabet.form.end g.E.Alphabet.form.table
    (slice_range c.args.src.now (4 * (c.args.u / 4)) c.args.u ++ replicate (4 - length (slice_range c.args.src.now (4 * (c.args.u / 4)) c.args.u)) 65))
    = subst (λ (n : ℕ). take (3 * n / 4) c.decode_rest-rest_good.result.0
    ≡ take (3 * n / 4) (bytes_of_blocks g.E.Alphabet.form.end g.E.Alphabet.form.table
    (slice_range c.args.src.now (4 * (c.args.u / 4)) c.args.u ++ replicate (4 - length (slice_range c.args.src.now (4 * (c.args.u / 4)) c.args.u)) 65)))
    size (c.decode_rest-rest_good.ensures.written good) in
    let kept = c.decode_blocks-good.auto.dst in
    let room = c.requires.room in
    let len : length (take (3 * (c.args.u % 4) / 4) c.decode_rest-rest_good.result.0) ≡ 3 * (c.args.u % 4) / 4 =
    length-take-le (3 * (c.args.u % 4) / 4) c.decode_rest-rest_good.result.0 (omega arith) in
    written_text g.E.Alphabet.form.end g.E.Alphabet.form.table c.args.src.now c.decode_blocks-good.new.dst _ c.copy_from_slice.new.self
    (take (3 * (c.args.u % 4) / 4) c.decode_rest-rest_good.result.0)
    (c.args.u / 4) (3 * (c.args.u % 4) / 4) (omega arith) (omega arith) (c.decode_blocks-good.ensures.written two.0) c.copy_from_slice.ensures.after len
    ∙ ap (λ (xs : List ℕ). bytes_of_blocks g.E.Alphabet.form.end g.E.Alphabet.form.table (take (4 * (c.args.u / 4)) c.args.src.now) ++ xs) written
    ∙ sym (loose_parts g.E.Alphabet.form.end g.E.Alphabet.form.table c.args.src.now g.E.Alphabet.form.padded c.args.u
    (slice_range c.args.src.now (4 * (c.args.u / 4)) c.args.u) c.requires.unpadded cut)

pub returns-clause-rest : goal.returns-clause-rest
returns-clause-rest g c =
    let le = unpadded_le g.E.Alphabet.form.padded c.args.src.now in
    let is = c.requires.unpadded in
    let room = c.requires.room in
    let kept = c.decode_blocks-good.auto.dst in
    let front : length (take (4 * (c.args.u / 4)) c.args.src.now) ≡ 4 * (c.args.u / 4) = length-take-le (4 * (c.args.u / 4)) c.args.src.now (omega arith) in
    let at : 3 * (length (take (4 * (c.args.u / 4)) c.args.src.now) / 4) ≡ 3 * (c.args.u / 4) = omega arith in
    let len : length (take (3 * (c.args.u % 4) / 4) c.decode_rest-rest_good.result.0) ≡ 3 * (c.args.u % 4) / 4 =
    length-take-le (3 * (c.args.u % 4) / 4) c.decode_rest-rest_good.result.0 (omega arith) in
    rest_kept c.args.dst.now c.decode_blocks-good.new.dst c.copy_from_slice.new.self (3 * (c.args.u / 4)) _ _
    (subst (λ (i : ℕ). drop i c.decode_blocks-good.new.dst ≡ drop i c.args.dst.now) at c.decode_blocks-good.ensures.rest) (omega arith)
    (ap length c.copy_from_slice.ensures.after ∙ len ∙ omega arith) (omega arith)
