-- An arc is the next subidentifier.
use Rattle.std.proofs.Common.{length, ap, arith}
use Rattle.der_core.proofs.Identifiers.{are_more, steps_end, steps_more}
use Rattle.der_core.proofs.oid.arcs.ArcsIterator.next.Goals as goal

pub returns-in-None-clause-steps : goal.returns-in-None-clause-steps
returns-in-None-clause-steps c =
    let ended = steps_end c.args.self.now.first c.args.self.now.second c.args.self.now.rest.now c.in_default.is c.in_default-second.is c.args.self.now.spelt
    c.in-None.ensures.none in
    (ended, ended)

pub invariant_of-self-in-Some-subidentifier_at : goal.invariant_of-self-in-Some-subidentifier_at
invariant_of-self-in-Some-subidentifier_at c =
    record {
      spelt = (are_more c.in-Some-subidentifier_at.arc c.args.self.now.rest.now c.in-Some-subidentifier_at.rest.now
          c.in-Some-subidentifier_at.ensures.small c.in-Some-subidentifier_at.ensures.found).0 c.args.self.now.spelt;
    }

pub returns-in-Some-subidentifier_at-clause-steps : goal.returns-in-Some-subidentifier_at-clause-steps
returns-in-Some-subidentifier_at-clause-steps c =
    steps_more c.args.self.now.first c.args.self.now.second c.in-Some-subidentifier_at.arc c.args.self.now.rest.now c.in-Some-subidentifier_at.rest.now
    c.in_default.is c.in_default-second.is c.in-Some-subidentifier_at.ensures.small c.in-Some-subidentifier_at.ensures.found

pub returns-in-Some-subidentifier_at-clause-goes : goal.returns-in-Some-subidentifier_at-clause-goes
returns-in-Some-subidentifier_at-clause-goes c =
    let e = steps_more c.args.self.now.first c.args.self.now.second c.in-Some-subidentifier_at.arc c.args.self.now.rest.now
    c.in-Some-subidentifier_at.rest.now c.in_default.is c.in_default-second.is c.in-Some-subidentifier_at.ensures.small
    c.in-Some-subidentifier_at.ensures.found in
    record { on = λ _. (tt, tt, omega (arith, ap length e)); keeps = tt; rests = λ _. tt }
