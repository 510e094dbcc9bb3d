-- Why a call on authorities, bundles or sets answers an error.
use Rattle.std.specs.Prelude.{◌≡◌, ◌⊎◌, Result, Ok, Err}
use Rattle.serde_json.specs.Data.{Data}
use Rattle.spiffe_json.specs.declared.error.JsonError.{JsonError}
use Rattle.spiffe_json.specs.declared.error.ReadError.{ReadError}
use Rattle.spiffe_json.specs.declared.error.ReadError.TheVariants as read
use Rattle.spiffe_bundle.specs.declared.error.JwtBundleError.{JwtBundleError}
use Rattle.spiffe_bundle.specs.declared.error.JwtBundleError.TheVariants.{Deserialize, OutOfMemory}

-- the error is the rule that `expected` names, or want of memory, which can come before the rules
abbrev pub IsRefusal : {T : Type 0} → Result T JwtBundleError → JwtBundleError → Type 0
IsRefusal expected e = (expected ≡ Err e) ⊎ (e ≡ OutOfMemory)

abbrev pub bundle_error : ReadError → JwtBundleError
bundle_error (read.Json broken) = Deserialize broken
bundle_error read.OutOfMemory = OutOfMemory

abbrev pub deserialized : Result Data JsonError → Result Data JwtBundleError
deserialized (Ok d) = Ok d
deserialized (Err broken) = Err (Deserialize broken)
