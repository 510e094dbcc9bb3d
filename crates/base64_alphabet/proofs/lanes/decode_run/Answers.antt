use Rattle.std.proofs.Common.{◌≡◌, ℕ, ◌*◌, ◌/◌, ◌&&◌, ◌++◌, length, take, drop, pos, if◌then◌else◌, to_z, of_z, arith, ap, subst, ◌∙◌, slice_range, length-drop}
use Rattle.std.proofs.lemmas.Bool.{and_parts}
use Rattle.std.proofs.lemmas.Int.{ints}
use Rattle.std.proofs.lemmas.List.{length-take-le}
use mir.Syntax.{w16}
use Rattle.base64_alphabet.specs.Table.{all_in}
use Rattle.base64_alphabet.specs.Encoding.{bytes_of_blocks}
use Rattle.base64_alphabet.proofs.PartsLemmas.{both_in, run_written, run_rest, put_end, drop_end, tail_is}
use Rattle.base64_alphabet.proofs.lanes.decode_run.Goals as goal

pub returns-clause-answer : goal.returns-clause-answer
returns-clause-answer g c =
    let src = c.args.src.now in
    let n : ℕ = 32 * (length c.args.src.now / 32) in
    let e : to_z w16 (of_z w16 c.bad_as_one.result) ≡ c.bad_as_one.result = omega (arith, ints) in
    let rest : c.decode_each-rest.result ≡ all_in g.E.Alphabet.form.table (drop (32 * (length c.args.src.now / 32)) c.args.src.now) =
    c.decode_each-rest.ensures.answer ∙ ap (all_in g.E.Alphabet.form.table) (tail_is n src) in
    e ∙ c.bad_as_one.ensures ∙ ap (λ b. if b then pos 0 else pos 1) ((λ i. c.decode_parts-good.ensures.answer i && rest i)
    ∙ both_in g.E.Alphabet.form.table src n)

pub returns-clause-written : goal.returns-clause-written
returns-clause-written g c h =
    let src = c.args.src.now in
    let p : ℕ = length c.args.src.now / 32 in
    let n : ℕ = 32 * (length c.args.src.now / 32) in
    let l = length-drop (32 * (length c.args.src.now / 32)) c.args.src.now in
    let size : length (take (32 * (length c.args.src.now / 32)) c.args.src.now) ≡ 32 * (length c.args.src.now / 32) =
    length-take-le (32 * (length c.args.src.now / 32)) c.args.src.now (omega arith) in
    let e : 24 * (length (take (32 * (length c.args.src.now / 32)) c.args.src.now) / 32) ≡ 24 * (length c.args.src.now / 32) = omega arith in
    let whole = c.requires.whole in
    let room = c.requires.room in
    let len = c.decode_parts-good.auto.dst in
    let two = and_parts (all_in g.E.Alphabet.form.table (take n src)) (all_in g.E.Alphabet.form.table (drop n src))
    (both_in g.E.Alphabet.form.table src n ∙ h) in
    let front = c.decode_parts-good.ensures.written two.0 ∙ ap (λ m. bytes_of_blocks g.E.Alphabet.form.end g.E.Alphabet.form.table (take n src)
    ++ drop m c.args.dst.now) e in
    let kept = subst (λ m. drop m c.decode_parts-good.new.dst ≡ drop m c.args.dst.now) e c.decode_parts-good.ensures.rest in
    let more = c.decode_each-rest.ensures.written (ap (all_in g.E.Alphabet.form.table) (tail_is n src) ∙ two.1)
    ∙ (λ i. bytes_of_blocks g.E.Alphabet.form.end g.E.Alphabet.form.table (tail_is n src i)
    ++ drop (3 * (length (tail_is n src i) / 4)) (tail_is (24 * p) c.decode_parts-good.new.dst i)) in
    run_written g.E.Alphabet.form.end g.E.Alphabet.form.table src c.args.dst.now c.decode_parts-good.new.dst _ c.decode_each-rest.new.dst p
    (3 * (length (drop (32 * (length c.args.src.now / 32)) c.args.src.now) / 4)) (3 * (length c.args.src.now / 4)) (omega arith) (omega arith)
    front kept (put_end (24 * p) c.decode_parts-good.new.dst c.decode_each-rest.new.dst (omega arith)) more

pub returns-clause-rest : goal.returns-clause-rest
returns-clause-rest g c =
    let src = c.args.src.now in
    let p : ℕ = length c.args.src.now / 32 in
    let n : ℕ = 32 * (length c.args.src.now / 32) in
    let l = length-drop (32 * (length c.args.src.now / 32)) c.args.src.now in
    let size : length (take (32 * (length c.args.src.now / 32)) c.args.src.now) ≡ 32 * (length c.args.src.now / 32) =
    length-take-le (32 * (length c.args.src.now / 32)) c.args.src.now (omega arith) in
    let e : 24 * (length (take (32 * (length c.args.src.now / 32)) c.args.src.now) / 32) ≡ 24 * (length c.args.src.now / 32) = omega arith in
    let whole = c.requires.whole in
    let room = c.requires.room in
    let len = c.decode_parts-good.auto.dst in
    let kept = subst (λ m. drop m c.decode_parts-good.new.dst ≡ drop m c.args.dst.now) e c.decode_parts-good.ensures.rest in
    let rest = subst (λ xs. drop (3 * (length xs / 4)) c.decode_each-rest.new.dst
    ≡ drop (3 * (length xs / 4)) (slice_range c.decode_parts-good.new.dst (24 * (length c.args.src.now / 32)) (length c.decode_parts-good.new.dst)))
    (tail_is n src) c.decode_each-rest.ensures.rest
    ∙ ap (drop (3 * (length (drop (32 * (length c.args.src.now / 32)) c.args.src.now) / 4))) (tail_is (24 * p) c.decode_parts-good.new.dst) in
    run_rest c.args.dst.now c.decode_parts-good.new.dst _ c.decode_each-rest.new.dst p
    (3 * (length (drop (32 * (length c.args.src.now / 32)) c.args.src.now) / 4)) (3 * (length c.args.src.now / 4)) (omega arith)
    kept (drop_end (24 * p) c.decode_parts-good.new.dst c.decode_each-rest.new.dst (omega arith)) rest

pub returns-clause-steps : goal.returns-clause-steps
returns-clause-steps g c =
    let l = length-drop (32 * (length c.args.src.now / 32)) c.args.src.now in
    let t = ap length (tail_is (32 * (length c.args.src.now / 32)) c.args.src.now) in
    let size : length (take (32 * (length c.args.src.now / 32)) c.args.src.now) ≡ 32 * (length c.args.src.now / 32) =
    length-take-le (32 * (length c.args.src.now / 32)) c.args.src.now (omega arith) in
    let whole = c.requires.whole in
    let first = c.decode_parts-good.ensures.steps in
    let second = c.decode_each-rest.ensures.steps in
    omega arith
