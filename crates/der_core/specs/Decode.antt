-- Reading: what a reader answers, of whatever values its type reads.
use Rattle.std.specs.Prelude.{◌≡◌, ◌≢◌, ℕ, List, [], ◌++◌, ◌<◌, ◌^◌, length, Result, Ok, Err}
use Rattle.der_core.specs.Der.{IsTag, IsValue, encode}
use Rattle.der_core.specs.Tag.{byte_of}
use Rattle.der_core.specs.declared.error.Error.{Error}
use Rattle.der_core.specs.declared.error.Error.TheVariants as error

-- No front of the bytes is an encoding.
abbrev pub NoFront : {V : Type 0} → (List ℕ → V → Type 0) → List ℕ → Type 0
NoFront {V = V} Reads bytes = (b rest : List ℕ) (v : V) → Reads b v → bytes ≡ b ++ rest → ⊥

-- The bytes are an encoding of v, and what follows it.
pub record Front {V : Type 0} (Reads : List ℕ → V → Type 0) (bytes rest : List ℕ) (v : V) : Type 0 where
  pub front : List ℕ
  pub reads : Reads front v
  pub is : bytes ≡ front ++ rest

-- An encoding of some value stands before other bytes.
pub record Trails {V : Type 0} (Reads : List ℕ → V → Type 0) (bytes : List ℕ) (decoded remaining : ℕ) : Type 0 where
  pub front : List ℕ
  pub rest : List ℕ
  pub value : V
  pub reads : Reads front value
  pub is : bytes ≡ front ++ rest
  pub some_rest : rest ≢ []
  pub decoded_is : decoded ≡ length front
  pub remaining_is : remaining ≡ length rest

-- What reading all of the bytes answers.
abbrev pub FromDer : {V : Type 0} → (List ℕ → V → Type 0) → List ℕ → Result V Error → Type 0
FromDer Reads bytes (Ok v) = Reads bytes v
FromDer Reads bytes (Err error.Malformed) = NoFront Reads bytes
FromDer Reads bytes (Err (error.TrailingData decoded remaining)) = Trails Reads bytes decoded remaining
FromDer Reads bytes (Err _) = ⊥

-- The bytes are the value of a tag whose content stands for v.
pub record ReadsTagged {V : Type 0} (tag : ℕ) (HasContent : List ℕ → V → Type 0) (b : List ℕ) (v : V) : Type 0 where
  pub content : List ℕ
  pub has : HasContent content v
  pub is : b ≡ encode tag content
  pub fits : length b < 2 ^ 32

pub ReadsTagged-one_value : {V : Type 0} (tag : ℕ) (HasContent : List ℕ → V → Type 0) (b : List ℕ) (v : V) → IsTag tag → ReadsTagged tag HasContent b v
    → IsValue b
ReadsTagged-one_value tag H b v t r = record { tag = tag; content = r.content; tag_ok = t; is = r.is; fits = r.fits }

pub record ReadsAny (b : List ℕ) (tag : ℕ) (content : List ℕ) : Type 0 where
  pub is : b ≡ encode tag content
  pub fits : length b < 2 ^ 32

pub ReadsAny-one_value : (b : List ℕ) (tag : ℕ) (content : List ℕ) → IsTag tag → ReadsAny b tag content → IsValue b
ReadsAny-one_value b tag content t r = record { tag = tag; content = content; tag_ok = t; is = r.is; fits = r.fits }

-- What reading a value as one of a fixed tag answers.
abbrev pub DecodedAs : {V : Type 0} → ℕ → (List ℕ → V → Type 0) → ℕ → List ℕ → Result V Error → Type 0
DecodedAs {V = V} fixed HasContent tag content (Ok v) = (tag ≡ fixed) × HasContent content v
DecodedAs {V = V} fixed HasContent tag content (Err error.Malformed) = (tag ≡ fixed) × ((v : V) → HasContent content v → ⊥)
DecodedAs {V = V} fixed HasContent tag content (Err (error.TagUnexpected expected actual)) = (tag ≢ fixed) × (byte_of expected ≡ fixed) × (byte_of actual ≡ tag)
DecodedAs {V = V} fixed HasContent tag content (Err _) = ⊥

-- What reading all of the bytes into a type that owns its bytes answers, over what the type is seen as. It also takes memory.
abbrev pub FromDerOwned : {V P : Type 0} → (V → P) → (List ℕ → P → Type 0) → List ℕ → Result V Error → Type 0
FromDerOwned plain Reads bytes (Ok v) = Reads bytes (plain v)
FromDerOwned plain Reads bytes (Err error.Malformed) = NoFront Reads bytes
FromDerOwned plain Reads bytes (Err (error.TrailingData decoded remaining)) = Trails Reads bytes decoded remaining
FromDerOwned plain Reads bytes (Err error.OutOfMemory) = Unit {0}
FromDerOwned plain Reads bytes (Err _) = ⊥
