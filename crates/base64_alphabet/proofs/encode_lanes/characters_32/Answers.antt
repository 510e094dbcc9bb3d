use Rattle.std.proofs.Common.{ap, ◌∙◌}
use Rattle.base64_alphabet.specs.Passes.{read_places}
use Rattle.base64_alphabet.proofs.TableLemmas.{facts}
use Rattle.base64_alphabet.proofs.TurnedLemmas.{first_turned, read_at, turn_step, turned_end_lanes}
use Rattle.base64_alphabet.proofs.encode_lanes.characters_32.Goals as goal

pub loop-step-init : goal.loop-step-init
loop-step-init g c = rw c.BASE.ensures (record { sum = first_turned g.E.Alphabet.BASE 32 c.args.digits c.requires.len })

pub turned_lanes-sum-requires-clause-reads : goal.turned_lanes-sum-requires-clause-reads
turned_lanes-sum-requires-clause-reads g c = read_at _ _ _ c.loop-step-test.true (ap read_places c.encode_passes-step-items.ensures ∙ c.requires.passes)

pub loop-step-preserved : goal.loop-step-preserved
loop-step-preserved g c = record {
  sum = turn_step g.E.Alphabet.BASE _ _ _ _ _ _ c.loop-step-test.true (ap read_places c.encode_passes-step-items.ensures ∙ c.requires.passes)
      c.loop-step.invariant.sum c.turned_lanes-sum.ensures;
}

pub returns-clause-characters : goal.returns-clause-characters
returns-clause-characters g c = turned_end_lanes g.E.Alphabet.BASE _ g.E.Alphabet.encode_steps _ g.E.Alphabet.form.table _ _ c.encode_passes-step-items.ensures
    c.loop-step-test.false g.met.E.Alphabet.encoder_answers
    (facts g.E.Alphabet.form.table g.met.E.Alphabet.lawful).ascii c.requires.below c.loop-step.invariant.sum
