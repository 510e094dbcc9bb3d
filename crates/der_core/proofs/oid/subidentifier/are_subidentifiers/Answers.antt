-- What is left is made of subidentifiers exactly where the whole is.
use Rattle.std.proofs.Common.{◌≡◌, length, refl, sym, ◌∙◌, arith}
use Rattle.std.proofs.lemmas.Bool.{eqb-true, eqb-false}
use Rattle.der_core.proofs.Identifiers.{are_none, are_more, are_empty, shorter}
use Rattle.der_core.proofs.oid.subidentifier.are_subidentifiers.Goals as goal

pub returns-in_default : goal.returns-in_default
returns-in_default c =
    let some : length c.loop-rest.rest.now ≡ 0 → ⊥ = eqb-false (length c.loop-rest.rest.now) 0 (sym c.is_empty.ensures ∙ c.loop-rest-test.true) in
    (λ h. cc, λ a. absurd (are_none c.loop-rest.rest.now (omega arith) c.in_default.ensures.none (c.loop-rest.invariant.1 a)))

pub loop-rest-smaller : goal.loop-rest-smaller
loop-rest-smaller c = shorter c.in-Some.field-0-0 c.loop-rest.rest.now c.in-Some.after.now c.in-Some.ensures.found

pub loop-rest-preserved : goal.loop-rest-preserved
loop-rest-preserved c =
    let step = are_more c.in-Some.field-0-0 c.loop-rest.rest.now c.in-Some.after.now c.in-Some.ensures.small c.in-Some.ensures.found in
    (λ a. c.loop-rest.invariant.0 (step.1 a), λ a. step.0 (c.loop-rest.invariant.1 a))

pub returns : goal.returns
returns c = (
  λ _. c.loop-rest.invariant.0 (are_empty c.loop-rest.rest.now
      (eqb-true (length c.loop-rest.rest.now) 0 (sym c.is_empty.ensures ∙ c.loop-rest-test.false))),
  λ _. refl,
)
