-- What a reading with whole numbers tells of one with any.
use Rattle.std.proofs.Common.{◌≡◌, ℕ, Bool, true, false, cond, not, List, Result, Ok, Err, Option, Some, None, is_some, refl}
use Rattle.serde_json.specs.Data.{Data}
use Rattle.serde_json.specs.Written.{has_float}
use Rattle.spiffe_json.specs.Json.{json_of, with_whole_numbers, whole_json}
use Rattle.spiffe_json.specs.declared.error.JsonError.{JsonError}
use Rattle.spiffe_json.specs.declared.error.JsonError.TheVariants.{Syntax, Number}
use Rattle.identity_verify.specs.TokenRules.{is_syntax}

found : (o : Option Data) (d : Data) → with_whole_numbers o ≡ Ok d → true ≡ is_some o
found None d e = absurd (cc)
found (Some x) d e = refl

number_or : (b : Bool) (d : Data) (broken : JsonError) → cond {A = Result Data JsonError} b (Err Number) (Ok d) ≡ Err broken → not (is_syntax broken) ≡ true
number_or true d broken e = let s : broken ≡ Number = cc in rw s refl
number_or false d broken e = absurd (cc)

lost : (o : Option Data) (broken : JsonError) → with_whole_numbers o ≡ Err broken → not (is_syntax broken) ≡ is_some o
lost None broken e = let s : broken ≡ Syntax = cc in rw s refl
lost (Some d) broken e = number_or (has_float d) d broken e

pub json_found : (bytes : List ℕ) (d : Data) → whole_json bytes ≡ Ok d → true ≡ is_some (json_of bytes)
unfolding whole_json
json_found bytes d e = found (json_of bytes) d e

pub json_lost : (bytes : List ℕ) (broken : JsonError) → whole_json bytes ≡ Err broken → not (is_syntax broken) ≡ is_some (json_of bytes)
unfolding whole_json
json_lost bytes broken e = lost (json_of bytes) broken e
