-- How a command ends by what it read and wrote, where the source and the sink tell their bytes.
use Rattle.std.specs.Prelude.{◌≡◌, ℕ, ◌<◌, ◌≤◌, List, length, Option, Some, IfSome}
use Rattle.identity_io.specs.Causes.{Rose}
use Rattle.command_line.specs.declared.status.Status.{Status}
use Rattle.command_line.specs.declared.status.Status.TheVariants.{Done, Refused, SourceFailed, OutOfMemory, TooLong}

-- a source and a sink: what is left to read, what was written, and how many faults came of each
pub record Streams : Type 0 where
  pub left : Option (List ℕ)
  pub read_faults : ℕ
  pub written : Option (List ℕ)
  pub write_faults : ℕ

-- those of a source and a sink, by what their traits tell of them
abbrev pub streams_of : {S K : Type 0} → (S → Option (List ℕ)) → (S → ℕ) → (K → Option (List ℕ)) → (K → ℕ) → S → K → Streams
streams_of left read_faults written write_faults source sink =
    record { left = left source; read_faults = read_faults source; written = written sink; write_faults = write_faults sink }

-- the size of the input by the status: an answer is of one within the limit, and only a longer one is too long
abbrev pub HasSize : ℕ → Option (List ℕ) → Status → Type 0
HasSize limit left Done = IfSome left (λ text. length text ≤ limit)
HasSize limit left Refused = IfSome left (λ text. length text ≤ limit)
HasSize limit left TooLong = IfSome left (λ text. limit < length text)
HasSize limit left _ = Unit {0}

-- nothing was written, where the status says that no answer was begun
abbrev pub IsUntouched : Status → Type 0 → Type 0
IsUntouched SourceFailed same = same
IsUntouched OutOfMemory same = same
IsUntouched TooLong same = same
IsUntouched _ same = Unit {0}

-- the statuses of a run in which no fault came
abbrev pub IsCalm : Status → Type 0
IsCalm Done = Unit {0}
IsCalm Refused = Unit {0}
IsCalm OutOfMemory = Unit {0}
IsCalm _ = ⊥

-- no fault came
abbrev pub Calm : ℕ → ℕ → Type 0
Calm before now = Rose before now → ⊥

-- the input is told, and has at most so many bytes
abbrev pub Within : ℕ → Option (List ℕ) → Type 0
Within limit left = (text : List ℕ) × (left ≡ Some text) × (length text ≤ limit)
