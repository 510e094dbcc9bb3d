-- The number of a version.
use Rattle.std.specs.Prelude.{◌≡◌, ◌≤◌, ℕ, Option, Some, None, Result, Ok, Err}
use Rattle.der_core.specs.declared.error.Error.TheVariants as der
use Rattle.pkcs8.specs.declared.error.Error.{Error}
use Rattle.pkcs8.specs.declared.error.Error.TheVariants as error
use Rattle.pkcs8.specs.declared.version.Version.{Version}
use Rattle.pkcs8.specs.declared.version.Version.TheVariants.{V1, V2}

abbrev pub version_byte : Version → ℕ
version_byte V1 = 0
version_byte V2 = 1

-- The second version is that of a key which holds its public key.
abbrev pub version_of : {B : Type 0} → Option B → Version
version_of None = V1
version_of (Some _) = V2

-- The version of a number, which only 0 and 1 have.
abbrev pub FromByte : ℕ → Result Version Error → Type 0
FromByte byte (Ok version) = version_byte version ≡ byte
FromByte byte (Err e) = (e ≡ error.Asn1 der.Malformed) × (2 ≤ byte)
