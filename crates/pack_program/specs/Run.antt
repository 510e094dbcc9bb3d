-- What `run` has done, where the disk and the sink tell their bytes.
use Rattle.std.specs.Prelude.{◌≡◌, ◌≢◌, ◌⊎◌, ◌↔◌, ℕ, List, Option, Ok, Err}
use Rattle.std.specs.Io.KnownBytes.{Appends}
use Rattle.std.specs.Option.{ForSome}
use Rattle.base64ct.specs.declared.line_ending.LineEnding.TheVariants.{LF}
use Rattle.identity_io.specs.Causes.{Rose}
use Rattle.identity_io.specs.Whole.{AppendsPrefix}
use Rattle.command_line.specs.Outcome.{Calm, IsCalm, IsUntouched}
use Rattle.command_line.specs.declared.status.Status.{Status}
use Rattle.command_line.specs.declared.status.Status.TheVariants.{Done, Refused, Usage, SourceFailed, SinkFailed, OutOfMemory, TooLong, BadScript}
use Rattle.pack_update.specs.Packed.{Files, Packed}
use Rattle.pack_update.specs.Text.{IsTextOf}
use Rattle.pack_update.specs.declared.error.PackError.{PackError}
use Rattle.pack_update.specs.declared.error.PackError.TheVariants.{Fault}
use Rattle.identity_update.specs.Parts.{UpdateParts}
use Rattle.pack_program.specs.Refusal.{IsRule, pack_line}
use Rattle.pack_program.specs.Words.{IsCommand, IsUsage, Order}

-- a disk and a sink: the files, what was written, and how many faults came of each
pub record Devices : Type 0 where
  pub files : Option Files
  pub read_faults : ℕ
  pub written : Option (List ℕ)
  pub write_faults : ℕ

-- those of a disk and a sink, by what their traits tell of them
abbrev pub devices_of : {D K : Type 0} → (D → Option Files) → (D → ℕ) → (K → Option (List ℕ)) → (K → ℕ) → D → K → Devices
devices_of files read_faults written write_faults disk sink =
    record { files = files disk; read_faults = read_faults disk; written = written sink; write_faults = write_faults sink }

-- what is printed for an order: the text of the update that the manifest is packed to, or the line of the first broken rule
abbrev pub Prints : Option Files → Order → List ℕ → Status → Type 0
Prints files order printed Done = (u : UpdateParts) × IsTextOf order.width LF u printed
    × ForSome files (λ known. Packed known order.manifest order.width (Ok u))
Prints files order printed Refused = (error : PackError) × IsRule error × (printed ≡ pack_line error)
    × ForSome files (λ known. Packed known order.manifest order.width (Err error))
Prints files order printed _ = ⊥

-- that was written and nothing else
abbrev pub Printed : Order → Devices → Devices → Status → Type 0
Printed order before now status = (printed : List ℕ) × Prints before.files order printed status × Appends before.written now.written printed

-- a first part of that was written
abbrev pub PartlyPrinted : Order → Devices → Devices → Type 0
PartlyPrinted order before now =
    (printed : List ℕ) × (Prints before.files order printed Done ⊎ Prints before.files order printed Refused) × AppendsPrefix before.written now.written printed

-- why there is nothing to print: the disk failed before a rule was found broken, or memory was wanted, which is free
abbrev pub Stops : Option Files → Order → ℕ → ℕ → Status → Type 0
Stops files order before now SourceFailed = Rose before now × ForSome files (λ known. Packed known order.manifest order.width (Err Fault))
Stops files order before now OutOfMemory = Unit {0}
Stops files order before now _ = ⊥

-- what `run` has done for an order, by its status
abbrev pub Runs : Order → Devices → Devices → Status → Type 0
Runs order before now Done = Printed order before now Done
Runs order before now Refused = Printed order before now Refused
Runs order before now Usage = ⊥
Runs order before now SourceFailed = Stops before.files order before.read_faults now.read_faults SourceFailed
Runs order before now SinkFailed = Rose before.write_faults now.write_faults × PartlyPrinted order before now
Runs order before now OutOfMemory = Unit {0}
Runs order before now TooLong = ⊥
Runs order before now BadScript = ⊥

-- the words were run: they are no command and nothing was begun, or their order was done, the files as they were
pub record HasRun (words : List (List ℕ)) (before now : Devices) (status : Status) (same_disk same_output : Type 0) : Type 0 where
  pub usage : status ≡ Usage ↔ IsUsage words
  pub not_begun : status ≡ Usage → same_disk × same_output
  pub runs : status ≢ Usage → (order : Order) × IsCommand words order × Runs order before now status
  pub untouched : IsUntouched status same_output
  pub calm : (order : Order) → IsCommand words order → Calm before.read_faults now.read_faults → Calm before.write_faults now.write_faults → IsCalm status
  pub kept : now.files ≡ before.files
