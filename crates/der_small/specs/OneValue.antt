-- Documents, which are the bytes of one value.
use Rattle.std.specs.Prelude.{◌≡◌, ℕ, ◌<◌, ◌≤◌, ◌^◌, List, length, Result, Ok, Err}
use Rattle.der_core.specs.Der.{IsValue}
use Rattle.der_core.specs.declared.error.Error.{Error}
use Rattle.der_core.specs.declared.error.Error.TheVariants as error

-- A document of these bytes, which are one value.
pub record IsOneValue (bytes : List ℕ) (document : List ℕ) : Type 0 where
  pub is : document ≡ bytes
  pub one : IsValue bytes

-- What making a document of an encoding answers.
abbrev pub EncodedAs : {D : Type 0} → (D → List ℕ) → List ℕ → Result D Error → Type 0
EncodedAs document_bytes encoding (Ok d) = (document_bytes d ≡ encoding) × (length encoding < 2 ^ 32)
EncodedAs document_bytes encoding (Err error.Overlength) = 2 ^ 32 ≤ length encoding
EncodedAs document_bytes encoding (Err error.OutOfMemory) = Unit {0}
EncodedAs document_bytes encoding (Err _) = ⊥
