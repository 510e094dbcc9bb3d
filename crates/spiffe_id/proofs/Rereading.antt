-- What a call answers whose text is one that reads as a known value.
use Rattle.std.proofs.Common.{◌≡◌, inl, inr, Result, Ok, Err, IfOk, IfErr}
use Rattle.spiffe_id.specs.declared.error.SpiffeIdError.{SpiffeIdError}
use Rattle.spiffe_id.specs.declared.error.SpiffeIdError.TheVariants.{OutOfMemory}
use Rattle.spiffe_id.specs.SpiffeIdError.{IsRefusal}

module _ {T : Type 0} (expected : Result T SpiffeIdError) (v : T) (reads : expected ≡ Ok v) where
  pub reread_value : (r : Result T SpiffeIdError) → IfOk r (λ w. expected ≡ Ok w) → IfOk r (λ w. w ≡ v)
  reread_value (Ok w) h = cc
  reread_value (Err e) h = tt

  pub reread_refusal : (r : Result T SpiffeIdError) → IfErr r (IsRefusal expected) → IfErr r (λ e. e ≡ OutOfMemory)
  reread_refusal (Ok w) h = tt
  reread_refusal (Err e) h = elim h [ inl broken ↦ cc | inr memory ↦ memory.0 ]
