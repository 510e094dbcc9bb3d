-- JSON values (RFC 8259) as `serde_json` reads them, in which each number is a whole number of 64 bits.
use Rattle.std.specs.Prelude.{◌≡◌, ℕ, List, Result, Ok, Err, Option, Some, None, if◌then◌else◌}
use Rattle.std.specs.Str.{is_utf8}
use Rattle.serde_json.specs.Data.{Data}
use Rattle.serde_json.specs.Read.{read}
use Rattle.serde_json.specs.Written.{has_float}
use Rattle.spiffe_json.specs.declared.error.JsonError.{JsonError}
use Rattle.spiffe_json.specs.declared.error.JsonError.TheVariants.{Syntax, Number}
use Rattle.spiffe_json.specs.declared.error.ReadError.{ReadError}
use Rattle.spiffe_json.specs.declared.error.ReadError.TheVariants.{Json, OutOfMemory}

-- the value that `serde_json` reads from bytes in UTF-8, at most 127 deep; of equal names in an object the last is kept
unfoldable pub json_of : List ℕ → Option Data
json_of bytes = if is_utf8 bytes then read bytes else None

-- that value where each number in it is a whole number of 64 bits: `serde_json` has every other number as a float
abbrev pub with_whole_numbers : Option Data → Result Data JsonError
with_whole_numbers None = Err Syntax
with_whole_numbers (Some d) = if has_float d then Err Number else Ok d

unfoldable pub whole_json : List ℕ → Result Data JsonError
whole_json bytes = with_whole_numbers (json_of bytes)

-- the error is the rule that `expected` names, or want of memory, which can come before the rules
abbrev pub IsReadRefusal : Result Data JsonError → ReadError → Type 0
IsReadRefusal expected (Json broken) = expected ≡ Err broken
IsReadRefusal expected OutOfMemory = Unit {0}
