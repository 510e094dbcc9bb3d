-- Writing: what a writer was told, and what a call wrote.
use Rattle.std.specs.Prelude.{◌≡◌, ℕ, List, ◌++◌, ◌<◌, ◌≤◌, ◌^◌, ◌⊎◌, length, Option, Some, Result, Ok, Err, OnOk, IfErr, OnErr, refl}
use Rattle.identity_io.specs.Causes.{Rose}
use Rattle.der_core.specs.Der.{IsTag, IsValue, encode}
use Rattle.std.specs.Prelude.{Vec}
use Rattle.der_core.specs.declared.error.Error.{Error}
use Rattle.der_core.specs.declared.error.Error.TheVariants as error

-- The writer was given a first part of the bytes, which may be none or all of them.
pub record GivenPart {W : Type 0} (HasTold : W → List ℕ → Type 0) (old new : W) (bytes : List ℕ) : Type 0 where
  pub front : List ℕ
  pub rest : List ℕ
  pub is : bytes ≡ front ++ rest
  pub told : (m : List ℕ) → HasTold old m → HasTold new (m ++ front)

-- In this call the writer refused, and with this error.
pub record Refused {W : Type 0} (refusals : W → ℕ) (last_refusal : W → Option Error) (old new : W) (e : Error) : Type 0 where
  pub rose : Rose (refusals old) (refusals new)
  pub last : last_refusal new ≡ Some e

-- The bytes were written whole; or they are too long; or the writer refused, and its refusal is the answer. After an error the writer was given a
-- first part of them.
pub record Wrote {W X : Type 0} (HasTold : W → List ℕ → Type 0) (refusals : W → ℕ) (last_refusal : W → Option Error) (old new : W) (bytes : List ℕ)
    (r : Result X Error) : Type 0 where
  pub ok : OnOk r ((length bytes < 2 ^ 32) × ((m : List ℕ) → HasTold old m → HasTold new (m ++ bytes)))
  pub err : IfErr r (λ e. ((2 ^ 32 ≤ length bytes) × (e ≡ error.Overlength)) ⊎ ((length bytes < 2 ^ 32) × Refused refusals last_refusal old new e))
  pub part : OnErr r (GivenPart HasTold old new bytes)

-- A length, exactly where it is below 2 ^ 32.
abbrev pub LengthOf : List ℕ → Result ℕ Error → Type 0
LengthOf bytes (Ok n) = (n ≡ length bytes) × (length bytes < 2 ^ 32)
LengthOf bytes (Err e) = (e ≡ error.Overlength) × (2 ^ 32 ≤ length bytes)

-- The bytes, unless they are too long or memory runs out.
abbrev pub ToDer : {A : Type 0} → List ℕ → Result (Vec ℕ A) Error → Type 0
ToDer bytes (Ok v) = (v.items ≡ bytes) × (length bytes < 2 ^ 32)
ToDer bytes (Err error.Overlength) = 2 ^ 32 ≤ length bytes
ToDer bytes (Err error.OutOfMemory) = Unit {0}
ToDer bytes (Err _) = ⊥

pub encode_one_value : (tag : ℕ) (content : List ℕ) → IsTag tag → length (encode tag content) < 2 ^ 32 → IsValue (encode tag content)
encode_one_value tag content t fits = record { tag = tag; content = content; tag_ok = t; is = refl; fits = fits }
