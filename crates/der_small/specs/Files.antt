-- Files of documents, and why they were not read or written.
use Rattle.std.specs.Prelude.{◌≡◌, ℕ, ◌<◌, ◌≤◌, List, length, Option, None, Some, Result, Ok, Err, Vec, IfErr, IsSomeAnd}
use Rattle.identity_io.specs.Causes.{Rose}
use Rattle.identity_io.specs.declared.disk.DiskError.{DiskError}
use Rattle.identity_io.specs.declared.disk.DiskError.TheVariants as disk
use Rattle.der_core.specs.Decode.{NoFront, Trails}
use Rattle.der_core.specs.declared.error.Error.{Error}
use Rattle.der_core.specs.declared.error.Error.TheVariants as error
use Rattle.der_small.specs.OneValue.{IsOneValue}

-- The error that a disk's refusal becomes.
abbrev pub error_of : DiskError → Error
error_of disk.Missing = error.FileMissing
error_of disk.Failed = error.FileFault
error_of disk.TooLong = error.FileTooLong
error_of disk.OutOfMemory = error.OutOfMemory

-- The count of the disk's faults did not fall, and with a fault it rose.
pub record FileCause {T : Type 0} (before now : ℕ) (result : Result T Error) : Type 0 where
  pub later : before ≤ now
  pub fault : IfErr result (λ e. e ≡ error.FileFault → Rose before now)

-- What reading the bytes of a file answers of the file that stands at the path.
abbrev pub FileBytes : {A : Type 0} → Option (List ℕ) → Result (Vec ℕ A) Error → Type 0
FileBytes found (Ok v) = (found ≡ Some v.items) × (length v.items ≤ 16777216)
FileBytes found (Err error.FileMissing) = found ≡ None
FileBytes found (Err error.FileTooLong) = IsSomeAnd found (λ bytes. 16777216 < length bytes)
FileBytes found (Err error.FileFault) = Unit {0}
FileBytes found (Err error.OutOfMemory) = Unit {0}
FileBytes found (Err _) = ⊥

-- What reading a file as a document answers of the file that stands at the path.
abbrev pub ReadsFile : {D : Type 0} → (D → List ℕ) → Option (List ℕ) → Result D Error → Type 0
ReadsFile document_bytes found (Ok d) = IsSomeAnd found (λ bytes. (length bytes ≤ 16777216) × IsOneValue bytes (document_bytes d))
ReadsFile document_bytes found (Err error.Malformed) = IsSomeAnd found (λ bytes. (length bytes ≤ 16777216) × NoFront IsOneValue bytes)
ReadsFile document_bytes found (Err (error.TrailingData decoded remaining)) =
    IsSomeAnd found (λ bytes. (length bytes ≤ 16777216) × Trails IsOneValue bytes decoded remaining)
ReadsFile document_bytes found (Err error.FileMissing) = found ≡ None
ReadsFile document_bytes found (Err error.FileTooLong) = IsSomeAnd found (λ bytes. 16777216 < length bytes)
ReadsFile document_bytes found (Err error.FileFault) = Unit {0}
ReadsFile document_bytes found (Err error.OutOfMemory) = Unit {0}
ReadsFile document_bytes found (Err _) = ⊥
