-- Why a call on tokens answers an error.
use Rattle.std.specs.Prelude.{◌≡◌, ◌⊎◌, Result, Err}
use Rattle.spiffe_id.specs.declared.error.SpiffeIdError.{SpiffeIdError}
use Rattle.spiffe_id.specs.declared.error.SpiffeIdError.TheVariants as id
use Rattle.spiffe_json.specs.declared.error.ReadError.{ReadError}
use Rattle.spiffe_json.specs.declared.error.ReadError.TheVariants as read
use Rattle.spiffe_token.specs.declared.error.JwtSvidError.{JwtSvidError}
use Rattle.spiffe_token.specs.declared.error.JwtSvidError.TheVariants.{InvalidSubject, InvalidJson, OutOfMemory}

-- the error is the rule that `expected` names, or want of memory, which can come before the rules
abbrev pub IsRefusal : {T : Type 0} → Result T JwtSvidError → JwtSvidError → Type 0
IsRefusal expected e = (expected ≡ Err e) ⊎ (e ≡ OutOfMemory)

abbrev pub read_error : ReadError → JwtSvidError
read_error (read.Json broken) = InvalidJson broken
read_error read.OutOfMemory = OutOfMemory

abbrev pub subject_error : SpiffeIdError → JwtSvidError
subject_error id.OutOfMemory = OutOfMemory
subject_error cause = InvalidSubject cause
