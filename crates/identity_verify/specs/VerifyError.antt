-- Why a token isn't verified.
use Rattle.std.specs.Prelude.{◌≡◌, ◌⊎◌, Result, Ok, Err}
use Rattle.spiffe_token.specs.declared.error.JwtSvidError.{JwtSvidError}
use Rattle.spiffe_token.specs.declared.error.JwtSvidError.TheVariants as token
use Rattle.identity_verify.specs.declared.error.VerifyError.{VerifyError}
use Rattle.identity_verify.specs.declared.error.VerifyError.TheVariants.{Token, OutOfMemory}

-- the error is the rule that `expected` names, or want of memory, which can come before the rules
abbrev pub IsRefusal : {T E : Type 0} → Result T (VerifyError E) → VerifyError E → Type 0
IsRefusal expected e = (expected ≡ Err e) ⊎ (e ≡ OutOfMemory)

abbrev pub token_error : {E : Type 0} → JwtSvidError → VerifyError E
token_error token.OutOfMemory = OutOfMemory
token_error broken = Token broken

abbrev pub token_answer : {T E : Type 0} → Result T JwtSvidError → Result T (VerifyError E)
token_answer (Ok t) = Ok t
token_answer (Err broken) = Err (token_error broken)
