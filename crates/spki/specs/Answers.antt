-- The answers of types that are read from documents or written as such.
use Rattle.std.specs.Prelude.{◌≡◌, ◌⊎◌, ℕ, ◌^◌, nat_lt, if◌then◌else◌, List, length, Result, Ok, Err}
use Rattle.der_core.specs.Decode.{NoFront, Trails}
use Rattle.der_core.specs.declared.error.Error.{Error as DerError}
use Rattle.der_core.specs.declared.error.Error.TheVariants as der
use Rattle.der_small.specs.Bits.{PlainBits}
use Rattle.spki.specs.declared.error.Error.{Error}
use Rattle.spki.specs.declared.error.Error.TheVariants as error

-- A refusal that only a file has.
abbrev pub IsOfAFile : Error → Type 0
IsOfAFile (error.Asn1 der.FileMissing) = Unit {0}
IsOfAFile (error.Asn1 der.FileFault) = Unit {0}
IsOfAFile (error.Asn1 der.FileTooLong) = Unit {0}
IsOfAFile _ = ⊥

-- A call gives its type's one answer to the bytes, or memory is wanted.
abbrev pub GivesValue : {V P : Type 0} → (V → P) → (List ℕ → Result P Error → Type 0) → List ℕ → Result V Error → Type 0
GivesValue plain HasAnswer bytes (Ok v) = HasAnswer bytes (Ok (plain v))
GivesValue plain HasAnswer bytes (Err error.OutOfMemory) = Unit {0}
GivesValue plain HasAnswer bytes (Err e) = HasAnswer bytes (Err e)

-- A call gives the one answer of its value, which is a document of these bytes or a refusal, or memory is wanted.
abbrev pub GivesBytes : {D : Type 0} → (D → List ℕ) → Result (List ℕ) Error → Result D Error → Type 0
GivesBytes bytes_of (Ok bytes) (Ok d) = bytes_of d ≡ bytes
GivesBytes bytes_of (Ok bytes) (Err e) = e ≡ error.OutOfMemory
GivesBytes bytes_of (Err refusal) (Ok d) = ⊥
GivesBytes bytes_of (Err refusal) (Err e) = (e ≡ refusal) ⊎ (e ≡ error.OutOfMemory)

-- What reading a public key or another type of one encoding answers, with the refusals of DER.
abbrev pub ReadAnswer : {P : Type 0} → (List ℕ → P → Type 0) → List ℕ → Result P Error → Type 0
ReadAnswer Reads bytes (Ok v) = Reads bytes v
ReadAnswer Reads bytes (Err (error.Asn1 der.Malformed)) = NoFront Reads bytes
ReadAnswer Reads bytes (Err (error.Asn1 (der.TrailingData decoded remaining))) = Trails Reads bytes decoded remaining
ReadAnswer Reads bytes (Err _) = ⊥

-- What writing an encoding answers.
abbrev pub written_answer : List ℕ → Result (List ℕ) Error
written_answer encoding = if nat_lt (length encoding) (2 ^ 32) then Ok encoding else Err (error.Asn1 der.Overlength)

-- What making a public key from what another type writes answers: the source's refusal, or else that of the reading.
abbrev pub FromSource : {V P : Type 0} → (V → P) → (List ℕ → Result P Error → Type 0) → Result (List ℕ) Error → Result V Error → Type 0
FromSource plain HasAnswer (Ok bytes) r = GivesValue plain HasAnswer bytes r
FromSource plain HasAnswer (Err refusal) (Ok v) = ⊥
FromSource plain HasAnswer (Err refusal) (Err e) = (e ≡ refusal) ⊎ (e ≡ error.OutOfMemory)

-- A call gives the one bit string of its value, or its one refusal, or memory is wanted.
abbrev pub GivesBits : {B : Type 0} → (B → PlainBits) → Result PlainBits DerError → Result B DerError → Type 0
GivesBits plain (Ok bits) (Ok v) = plain v ≡ bits
GivesBits plain (Ok bits) (Err e) = e ≡ der.OutOfMemory
GivesBits plain (Err refusal) (Ok v) = ⊥
GivesBits plain (Err refusal) (Err e) = (e ≡ refusal) ⊎ (e ≡ der.OutOfMemory)
