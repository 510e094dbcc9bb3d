use Rattle.std.proofs.Common.{rules}
use Rattle.base64_alphabet.proofs.LanesLemmas.{pass_step, pass_end, first_sum}
use Rattle.base64_alphabet.proofs.lanes.places_32.Goals as goal

pub loop-step-init : goal.loop-step-init
loop-step-init g c = record { sum = first_sum c.args.src.now (search rules) }

pub loop-step-preserved : goal.loop-step-preserved
loop-step-preserved g c = record {
  sum = pass_step _ _ _ _ _ _ c.loop-step-test.true c.loop-step.invariant.sum c.added_lanes-sum.ensures;
}

pub returns-clause-places : goal.returns-clause-places
returns-clause-places g c = pass_end _ g.E.Alphabet.decode_steps _ _ _ _ c.decode_passes-step-items.ensures c.loop-step-test.false
    g.met.E.Alphabet.decoder_answers c.fits-src c.loop-step.invariant.sum
