-- How a disk in memory counts its faults.
use Rattle.std.specs.Prelude.{ℕ, Result, Err}
use Rattle.identity_io.specs.Memory.{one_more}
use Rattle.identity_io.specs.declared.disk.DiskError.{DiskError}
use Rattle.identity_io.specs.declared.disk.DiskError.TheVariants as error

-- The count of faults after a call: one more exactly where the call failed.
abbrev pub faults_after : {T : Type 0} → ℕ → Result T DiskError → ℕ
faults_after faults (Err error.Failed) = one_more faults
faults_after faults _ = faults
