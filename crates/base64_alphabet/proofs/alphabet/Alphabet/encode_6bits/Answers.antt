use Rattle.std.proofs.Common.{◌≡◌, ℕ, ◌<◌, pos, arith, ◌+ℤ◌, to_z, of_z, FitsSigned, slice_index, unsigned_abs}
use Rattle.std.proofs.lemmas.Int.{ints, to_z-of_z}
use Rattle.base64_alphabet.proofs.PassesLemmas.{turns_fit_at, turned_at, turn_fits, turn_sum_fits, turns_rest, turned_rest, turned_end}
use Rattle.base64_alphabet.proofs.TableLemmas.{facts, ascii_at}
use mir.Syntax.{w16}
use Rattle.base64_alphabet.proofs.alphabet.Alphabet.encode_6bits.Goals as goal

pub loop-step-init : goal.loop-step-init
loop-step-init g c =
    let s : to_z w16 (of_z w16 c.args.src) ≡ c.args.src = to_z-of_z w16 c.args.src c.ranges.src in
    let b : to_z w16 c.BASE.result ≡ pos c.BASE.result = omega (arith, ints) in
    let sum : to_z w16 (of_z w16 (c.args.src +ℤ pos c.BASE.result)) ≡ c.args.src +ℤ pos c.BASE.result = omega (arith, ints) in
    rw (s, b, sum, c.encode_passes-step-items.ensures, c.BASE.ensures) (record {
      fits = turns_fit_at _ _ g.Self.Alphabet.form.table _ g.met.Self.Alphabet.encoder_answers c.requires.low c.requires.high;
      sum = turned_at _ _ _ _ g.met.Self.Alphabet.encoder_answers c.requires.low c.requires.high;
    })

pub turned-sum-requires : goal.turned-sum-requires
turned-sum-requires g c = turn_fits _ _ _ _ _ c.loop-step-test.true c.loop-step.invariant.fits

pub overflow_add-sum-in-loop-step : goal.overflow_add-sum-in-loop-step
overflow_add-sum-in-loop-step g c =
    let k : to_z w16 (of_z w16 c.turned-sum.result) ≡ c.turned-sum.result = omega (arith, ints) in
    rw k (turn_sum_fits _ _ _ _ _ _ c.loop-step-test.true c.turned-sum.ensures c.loop-step.invariant.fits)

pub loop-step-preserved : goal.loop-step-preserved
loop-step-preserved g c =
    let is = c.turned-sum.ensures in
    let fits : FitsSigned w16 (to_z w16 c.loop-step.sum-bits +ℤ c.turned-sum.result) =
    turn_sum_fits _ _ _ _ _ _ c.loop-step-test.true is c.loop-step.invariant.fits in
    let k : to_z w16 (of_z w16 c.turned-sum.result) ≡ c.turned-sum.result = omega (arith, ints) in
    let more : to_z w16 (of_z w16 (to_z w16 c.loop-step.sum-bits +ℤ to_z w16 (of_z w16 c.turned-sum.result)))
    ≡ to_z w16 c.loop-step.sum-bits +ℤ c.turned-sum.result = rw k (to_z-of_z w16 _ fits) in
    record {
      fits = turns_rest _ _ _ _ _ _ _ c.loop-step-test.true is more c.loop-step.invariant.fits;
      sum = turned_rest _ _ _ _ _ _ _ _ c.loop-step-test.true is more c.loop-step.invariant.sum;
    }

pub overflow_cast-result : goal.overflow_cast-result
overflow_cast-result g c =
    let char : ℕ = slice_index g.Self.Alphabet.form.table (unsigned_abs (to_z w16 (of_z w16 c.args.src))) in
    let is : to_z w16 c.loop-step.sum-bits ≡ pos char = turned_end _ _ _ _ _ c.loop-step-test.false c.loop-step.invariant.sum in
    let low : char < 128 = ascii_at g.Self.Alphabet.form.table (facts g.Self.Alphabet.form.table g.met.Self.Alphabet.lawful).ascii _ in
    rw is (tt, record { fits = omega arith })
