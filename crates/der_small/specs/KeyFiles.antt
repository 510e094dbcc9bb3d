-- Files of keys: what the calls that read and write keys answer, whatever type their errors have.
use Rattle.std.specs.Prelude.{◌≡◌, ◌⊎◌, ℕ, ◌<◌, ◌≤◌, List, length, Option, None, Result, Ok, Err, IfErr, IsErrAnd, IsSomeAnd}
use Rattle.identity_io.specs.Causes.{Rose}
use Rattle.identity_io.specs.Files.{Wrote}
use Rattle.der_core.specs.Decode.{NoFront, Trails}
use Rattle.der_core.specs.Der.{IsValue}
use Rattle.der_core.specs.declared.error.Error.{Error}
use Rattle.der_core.specs.declared.error.Error.TheVariants as der
use Rattle.der_small.specs.OneValue.{IsOneValue}

-- What an error of a key is: one of DER that it holds, want of memory, or another.
pub data Kind : Type 0 where
  Der : Error → Kind
  Memory : Kind
  Other : Kind

-- Why the bytes of a file are no document.
abbrev pub NoDocument : List ℕ → Kind → Type 0
NoDocument bytes (Der der.Malformed) = NoFront IsOneValue bytes
NoDocument bytes (Der (der.TrailingData decoded remaining)) = Trails IsOneValue bytes decoded remaining
NoDocument bytes _ = ⊥

-- Why no key is read from the file that stands at the path, where `refused` says how the key's type refuses the bytes of a document.
abbrev pub NoKeyFile : (List ℕ → Type 0) → Option (List ℕ) → Kind → Type 0
NoKeyFile refused found (Der der.FileMissing) = found ≡ None
NoKeyFile refused found (Der der.FileTooLong) = IsSomeAnd found (λ bytes. 16777216 < length bytes)
NoKeyFile refused found (Der der.FileFault) = Unit {0}
NoKeyFile refused found Memory = Unit {0}
NoKeyFile refused found kind = IsSomeAnd found (λ bytes. (length bytes ≤ 16777216) × (NoDocument bytes kind ⊎ (IsValue bytes × refused bytes)))

-- What reading a key from the file that stands at the path answers. The document is read first, and then its type answers of it.
abbrev pub ReadsKeyFile : {E V P : Type 0} → (E → Kind) → (V → P) → (List ℕ → Result P E → Type 0) → Option (List ℕ) → Result V E → Type 0
ReadsKeyFile kind_of plain HasAnswer found (Ok v) =
    IsSomeAnd found (λ bytes. (length bytes ≤ 16777216) × (IsValue bytes × HasAnswer bytes (Ok (plain v))))
ReadsKeyFile kind_of plain HasAnswer found (Err e) = NoKeyFile (λ bytes. HasAnswer bytes (Err e)) found (kind_of e)

-- What writing a key to a file does and answers: its document stands at the path, or its refusal is given and nothing is touched.
abbrev pub WritesKeyFile : {E : Type 0} → (Error → E) → Result (List ℕ) E → List ℕ → Option (List (List ℕ × List ℕ)) → Option (List (List ℕ × List ℕ)) →
    Result (Unit {0}) E → Type 0
WritesKeyFile from (Ok bytes) path old new r = Wrote path bytes old new r × IfErr r (λ e. (e ≡ from der.FileFault) ⊎ (e ≡ from der.OutOfMemory))
WritesKeyFile from (Err refusal) path old new r = (new ≡ old) × IsErrAnd r (λ e. (e ≡ refusal) ⊎ (e ≡ from der.OutOfMemory))

-- The count of the disk's faults did not fall, and with a fault it rose.
pub record KeyFileCause {T E : Type 0} (from : Error → E) (before now : ℕ) (result : Result T E) : Type 0 where
  pub later : before ≤ now
  pub fault : IfErr result (λ e. e ≡ from der.FileFault → Rose before now)
