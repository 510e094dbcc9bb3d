-- What was done for an order.
use Rattle.std.proofs.Common.{◌≡◌, ◌⊎◌, List, ℕ, Option, inl, inr, subst}
use Rattle.std.specs.Io.KnownBytes.{Appends}
use Rattle.identity_io.specs.Whole.{AppendsPrefix}
use Rattle.command_line.specs.declared.status.Status.{Status}
use Rattle.command_line.specs.declared.status.Status.TheVariants.{Done, Refused, Usage, SourceFailed, SinkFailed, OutOfMemory, TooLong, BadScript}
use Rattle.pack_update.specs.Packed.{Files}
use Rattle.pack_program.specs.Run.{Devices, PartlyPrinted, Prints, Runs, Stops}
use Rattle.pack_program.specs.Words.{Order}

abbrev pub devices : Option Files → ℕ → Option (List ℕ) → ℕ → Devices
devices files read_faults written write_faults = record { files = files; read_faults = read_faults; written = written; write_faults = write_faults }

-- an answer's status is not that of faulty words
pub no_usage : (files : Option Files) (order : Order) (printed : List ℕ) (status : Status) → Prints files order printed status → status ≡ Usage → ⊥
no_usage files order printed status prints is = subst (λ (s : Status). Prints files order printed s) is prints

-- nor is that of a run without an answer
pub stops_otherwise : (files : Option Files) (order : Order) (before now : ℕ) (status : Status) → Stops files order before now status → status ≡ Usage → ⊥
stops_otherwise files order before now status stops is = subst (λ (s : Status). Stops files order before now s) is stops

-- an answer is a text or a line
one_of_both : (files : Option Files) (order : Order) (printed : List ℕ) (status : Status) → Prints files order printed status
    → Prints files order printed Done ⊎ Prints files order printed Refused
one_of_both files order printed Done prints = inl prints
one_of_both files order printed Refused prints = inr prints
one_of_both files order printed Usage prints = absurd prints
one_of_both files order printed SourceFailed prints = absurd prints
one_of_both files order printed SinkFailed prints = absurd prints
one_of_both files order printed OutOfMemory prints = absurd prints
one_of_both files order printed TooLong prints = absurd prints
one_of_both files order printed BadScript prints = absurd prints

module _ (order : Order) (before now : Devices) where
  -- there was no answer
  pub stopped : (status : Status) → Stops before.files order before.read_faults now.read_faults status → Runs order before now status
  stopped SourceFailed stops = stops
  stopped OutOfMemory stops = tt
  stopped Done stops = absurd stops
  stopped Refused stops = absurd stops
  stopped Usage stops = absurd stops
  stopped SinkFailed stops = absurd stops
  stopped TooLong stops = absurd stops
  stopped BadScript stops = absurd stops

  -- the answer was written
  pub answered : (printed : List ℕ) (status : Status) → Prints before.files order printed status → Appends before.written now.written printed
      → Runs order before now status
  answered printed Done prints wrote = (printed, prints, wrote)
  answered printed Refused prints wrote = (printed, prints, wrote)
  answered printed Usage prints wrote = absurd prints
  answered printed SourceFailed prints wrote = absurd prints
  answered printed SinkFailed prints wrote = absurd prints
  answered printed OutOfMemory prints wrote = absurd prints
  answered printed TooLong prints wrote = absurd prints
  answered printed BadScript prints wrote = absurd prints

  -- a first part of the answer was written
  pub partly : (printed : List ℕ) (status : Status) → Prints before.files order printed status → AppendsPrefix before.written now.written printed
      → PartlyPrinted order before now
  partly printed status prints wrote = (printed, one_of_both before.files order printed status prints, wrote)
