-- The answers of types that are read from documents or written as such.
use Rattle.std.specs.Prelude.{◌≡◌, ◌⊎◌, ℕ, ◌≤◌, ◌^◌, nat_lt, if◌then◌else◌, List, length, Result, Ok, Err}
use Rattle.der_core.specs.Decode.{NoFront, Trails}
use Rattle.der_core.specs.declared.error.Error.TheVariants as der
use Rattle.spki.specs.declared.error.Error.TheVariants as spki
use Rattle.pkcs8.specs.declared.error.Error.{Error}
use Rattle.pkcs8.specs.declared.error.Error.TheVariants as error

-- A refusal that only a file has.
abbrev pub IsOfAFile : Error → Type 0
IsOfAFile (error.Asn1 der.FileMissing) = Unit {0}
IsOfAFile (error.Asn1 der.FileFault) = Unit {0}
IsOfAFile (error.Asn1 der.FileTooLong) = Unit {0}
IsOfAFile (error.PublicKey (spki.Asn1 der.FileMissing)) = Unit {0}
IsOfAFile (error.PublicKey (spki.Asn1 der.FileFault)) = Unit {0}
IsOfAFile (error.PublicKey (spki.Asn1 der.FileTooLong)) = Unit {0}
IsOfAFile _ = ⊥

-- A call gives its type's one answer to the bytes, or memory is wanted.
abbrev pub GivesValue : {V P : Type 0} → (V → P) → (List ℕ → Result P Error → Type 0) → List ℕ → Result V Error → Type 0
GivesValue plain HasAnswer bytes (Ok v) = HasAnswer bytes (Ok (plain v))
GivesValue plain HasAnswer bytes (Err error.OutOfMemory) = Unit {0}
GivesValue plain HasAnswer bytes (Err e) = HasAnswer bytes (Err e)

-- A call gives the one answer of its value, which is a document of these bytes or a refusal, or memory is wanted.
abbrev pub GivesBytes : {D : Type 0} → (D → List ℕ) → Result (List ℕ) Error → Result D Error → Type 0
GivesBytes bytes_of (Ok bytes) (Ok d) = bytes_of d ≡ bytes
GivesBytes bytes_of (Ok bytes) (Err e) = e ≡ error.OutOfMemory
GivesBytes bytes_of (Err refusal) (Ok d) = ⊥
GivesBytes bytes_of (Err refusal) (Err e) = (e ≡ refusal) ⊎ (e ≡ error.OutOfMemory)

-- What reading a private key or another type of one encoding answers, with the refusals of DER.
abbrev pub ReadAnswer : {P : Type 0} → (List ℕ → P → Type 0) → List ℕ → Result P Error → Type 0
ReadAnswer Reads bytes (Ok v) = Reads bytes v
ReadAnswer Reads bytes (Err (error.Asn1 der.Malformed)) = NoFront Reads bytes
ReadAnswer Reads bytes (Err (error.Asn1 (der.TrailingData decoded remaining))) = Trails Reads bytes decoded remaining
ReadAnswer Reads bytes (Err _) = ⊥

-- What writing an encoding answers.
abbrev pub written_answer : List ℕ → Result (List ℕ) Error
written_answer encoding = if nat_lt (length encoding) (2 ^ 32) then Ok encoding else Err (error.Asn1 der.Overlength)

-- Why an encoding has no document, or that memory is wanted.
abbrev pub IsOverlengthOrMemory : List ℕ → Error → Type 0
IsOverlengthOrMemory encoding error.OutOfMemory = Unit {0}
IsOverlengthOrMemory encoding (error.Asn1 der.Overlength) = 2 ^ 32 ≤ length encoding
IsOverlengthOrMemory encoding _ = ⊥
