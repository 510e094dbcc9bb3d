-- Rules that hold in turn.
use Rattle.std.proofs.Common.{◌≡◌, Result, Ok, refl}
use Rattle.spiffe_id.specs.Rules.{then_ok}
use Rattle.identity_verify.specs.declared.error.VerifyError.{VerifyError}
use Rattle.identity_verify.specs.Verdict.{Refusal, by_rule}

pub two_hold : {U V E : Type 0} (first : Result (Unit {0}) (VerifyError E)) (second : Result U (VerifyError E)) (next : U → Result V (Refusal E))
    (u : Unit {0}) (b : U)
    → Ok u ≡ first → second ≡ Ok b → then_ok (by_rule first) (λ _. then_ok (by_rule second) next) ≡ next b
two_hold first second next u b one two = rw (← one, two) refl
