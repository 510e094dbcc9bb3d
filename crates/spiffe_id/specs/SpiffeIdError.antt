-- Why a call on identifiers answers an error.
use Rattle.std.specs.Prelude.{◌≡◌, ◌⊎◌, Result, Err, IsOk}
use Rattle.spiffe_id.specs.declared.error.SpiffeIdError.{SpiffeIdError}
use Rattle.spiffe_id.specs.declared.error.SpiffeIdError.TheVariants.{OutOfMemory}

-- the error is the rule that `expected` names, or want of memory where every rule holds
abbrev pub IsRefusal : {T : Type 0} → Result T SpiffeIdError → SpiffeIdError → Type 0
IsRefusal expected e = (expected ≡ Err e) ⊎ ((e ≡ OutOfMemory) × IsOk expected)
