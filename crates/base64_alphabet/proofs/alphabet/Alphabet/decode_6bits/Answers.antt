use Rattle.std.proofs.Common.{◌≡◌, ◌<◌, ℤ, arith, ◌+ℤ◌, to_z, of_z, FitsSigned}
use Rattle.std.proofs.lemmas.Int.{ints, to_z-of_z}
use Rattle.base64_alphabet.proofs.PassesLemmas.{fits_at, sum_at, next_fits, rest_fits, rest_sum, sum_end}
use Rattle.base64_alphabet.proofs.TableLemmas.{facts, place_is_place}
use Rattle.base64_alphabet.specs.Table.{place_of}
use mir.Syntax.{w16}
use Rattle.base64_alphabet.proofs.alphabet.Alphabet.decode_6bits.Goals as goal

pub loop-step-init : goal.loop-step-init
loop-step-init g c =
    let low : c.args.src < 256 = omega arith in
    rw c.decode_passes-step-items.ensures (record {
      fits = fits_at g.Self.Alphabet.decode_steps g.Self.Alphabet.form.table c.args.src g.met.Self.Alphabet.decoder_answers low;
      sum = sum_at g.Self.Alphabet.decode_steps g.Self.Alphabet.form.table c.args.src g.met.Self.Alphabet.decoder_answers low;
    })

pub loop-step-preserved : goal.loop-step-preserved
loop-step-preserved g c =
    let is = c.added-sum.ensures in
    let d : ℤ = to_z w16 c.loop-step.sum-bits in
    let fits : FitsSigned w16 (to_z w16 c.loop-step.sum-bits +ℤ c.added-sum.result) =
    next_fits _ _ _ _ _ _ c.loop-step-test.true is c.loop-step.invariant.fits in
    let k : to_z w16 (of_z w16 c.added-sum.result) ≡ c.added-sum.result = omega (arith, ints) in
    let more : to_z w16 (of_z w16 (to_z w16 c.loop-step.sum-bits +ℤ to_z w16 (of_z w16 c.added-sum.result)))
    ≡ to_z w16 c.loop-step.sum-bits +ℤ c.added-sum.result = rw k (to_z-of_z w16 _ fits) in
    record {
      fits = rest_fits _ _ _ _ _ _ _ c.loop-step-test.true is more c.loop-step.invariant.fits;
      sum = rest_sum _ _ _ _ _ _ _ _ c.loop-step-test.true is more c.loop-step.invariant.sum;
    }

pub returns-clause-range : goal.returns-clause-range
returns-clause-range g c =
    let is : to_z w16 c.loop-step.sum-bits ≡ place_of g.Self.Alphabet.form.table c.args.src = sum_end _ _ _ _ _ c.loop-step-test.false
    c.loop-step.invariant.sum in
    rw is (place_is_place g.Self.Alphabet.form.table c.args.src (facts g.Self.Alphabet.form.table g.met.Self.Alphabet.lawful).len)
