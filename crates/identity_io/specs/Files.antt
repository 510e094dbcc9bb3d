-- Files by their paths, and what the calls of a disk do to them.
use Rattle.std.specs.Prelude.{ℕ, ◌≡◌, ◌≢◌, ◌≤◌, ◌<◌, List, length, IfErr, OnOk, IsSomeAnd, Result, Ok, Err, Vec}
use Rattle.std.specs.declared.option.Option.{Option}
use Rattle.std.specs.declared.option.Option.TheVariants.{None, Some}
use Rattle.std.specs.Str.{bytes_eq}
use Rattle.std.specs.Map.{lookup}
use Rattle.identity_io.specs.Causes.{Rose}
use Rattle.identity_io.specs.declared.disk.DiskError.{DiskError}
use Rattle.identity_io.specs.declared.disk.DiskError.TheVariants as error

-- The bytes of the file of this path.
abbrev pub file_at : List ℕ → List (List ℕ × List ℕ) → Option (List ℕ)
file_at path files = lookup (bytes_eq path) files

-- What a read answers of the file that stands at its path.
abbrev pub ReadFrom : {A : Type 0} → Option (List ℕ) → Result (Vec ℕ A) DiskError → Type 0
ReadFrom found (Ok v) = (found ≡ Some v.items) × (length v.items ≤ 16777216)
ReadFrom found (Err error.Missing) = found ≡ None
ReadFrom found (Err error.TooLong) = IsSomeAnd found (λ bytes. 16777216 < length bytes)
ReadFrom found (Err error.Failed) = Unit {0}
ReadFrom found (Err error.OutOfMemory) = Unit {0}

-- With Ok the path holds the bytes, and with either answer all other paths are as before.
pub record WroteAt {T E : Type 0} (path bytes : List ℕ) (old new : List (List ℕ × List ℕ)) (result : Result T E) : Type 0 where
  pub written : OnOk result (file_at path new ≡ Some bytes)
  pub others : (other : List ℕ) → other ≢ path → file_at other new ≡ file_at other old

-- The same of files that may not be told.
abbrev pub Wrote : {T E : Type 0} → List ℕ → List ℕ → Option (List (List ℕ × List ℕ)) → Option (List (List ℕ × List ℕ)) → Result T E → Type 0
Wrote path bytes None new result = new ≡ None
Wrote path bytes (Some old) new result = IsSomeAnd new (λ files. WroteAt path bytes old files result)

-- The count of faults did not fall, and where the call failed it rose.
pub record FaultCause {T : Type 0} (before now : ℕ) (result : Result T DiskError) : Type 0 where
  pub later : before ≤ now
  pub failed : IfErr result (λ e. e ≡ error.Failed → Rose before now)

-- A disk in memory, as contracts see it: its files, the numbers of the calls that fail, how many calls were made and how many of them failed.
pub record Shelf : Type 0 where
  pub files : List (List ℕ × List ℕ)
  pub failing : List ℕ
  pub calls : ℕ
  pub faults : ℕ
