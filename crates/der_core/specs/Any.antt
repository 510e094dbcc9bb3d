-- A value of any tag as plain data, without where its bytes lie.
use Rattle.std.specs.Prelude.{◌≡◌, ℕ, ◌<◌, ◌≤◌, ◌^◌, List, length, Result, Ok, Err}
use Rattle.der_core.specs.Der.{IsTag, encode}
use Rattle.der_core.specs.declared.any.AnyRef.{AnyRef}
use Rattle.der_core.specs.declared.any.Any.{Any}
use Rattle.der_core.specs.declared.error.Error.{Error}
use Rattle.der_core.specs.declared.error.Error.TheVariants as error

pub record PlainAny : Type 0 where
  pub tag : ℕ
  pub content : List ℕ

abbrev pub plain_ref : AnyRef → PlainAny
plain_ref v = record { tag = v.tag.byte; content = v.value.now }

abbrev pub plain_any : Any → PlainAny
plain_any v = record { tag = v.tag.byte; content = v.value.items }

-- Its encoding.
abbrev pub der_of : PlainAny → List ℕ
der_of v = encode v.tag v.content

-- The bytes are its encoding.
pub record ReadsPlain (b : List ℕ) (v : PlainAny) : Type 0 where
  pub tag_ok : IsTag v.tag
  pub is : b ≡ der_of v
  pub fits : length b < 2 ^ 32

-- What making a value of any tag from an encoding answers.
abbrev pub EncodedFrom : List ℕ → Result Any Error → Type 0
EncodedFrom bytes (Ok v) = (der_of (plain_any v) ≡ bytes) × (length bytes < 2 ^ 32)
EncodedFrom bytes (Err error.Overlength) = 2 ^ 32 ≤ length bytes
EncodedFrom bytes (Err error.OutOfMemory) = Unit {0}
EncodedFrom bytes (Err _) = ⊥
