-- Why bytes are no bundle document.
use Rattle.std.specs.Prelude.{◌≡◌, ◌⊎◌, List, ℕ, ◌++◌, codes, decimal, Result, Ok, Err}
use Rattle.serde_json.specs.Data.{Data}
use Rattle.spiffe_json.specs.declared.error.JsonError.{JsonError}
use Rattle.spiffe_json.specs.declared.error.ReadError.{ReadError}
use Rattle.spiffe_json.specs.declared.error.ReadError.TheVariants as read
use Rattle.bundle_document.specs.declared.error.DocumentError.{DocumentError}
use Rattle.bundle_document.specs.declared.error.DocumentError.TheVariants.{Deserialize, OutOfMemory}

-- the error is the rule that `expected` names, or want of memory, which can come before the rules
abbrev pub IsRefusal : {T : Type 0} → Result T DocumentError → DocumentError → Type 0
IsRefusal expected e = (expected ≡ Err e) ⊎ (e ≡ OutOfMemory)

abbrev pub document_error : ReadError → DocumentError
document_error (read.Json broken) = Deserialize broken
document_error read.OutOfMemory = OutOfMemory

abbrev pub deserialized : Result Data JsonError → Result Data DocumentError
deserialized (Ok d) = Ok d
deserialized (Err broken) = Err (Deserialize broken)
