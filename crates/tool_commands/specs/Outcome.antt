-- What `show` has done, where the source and the sink tell their bytes.
use Rattle.std.specs.Prelude.{◌≡◌, ◌≢◌, ℕ, ◌⊎◌, List, IfSome}
use Rattle.std.specs.Io.KnownBytes.{Appends, IsAtEnd}
use Rattle.identity_io.specs.Causes.{Rose}
use Rattle.identity_io.specs.Whole.{AppendsPrefix}
use Rattle.identity_update.specs.Parts.{UpdateParts}
use Rattle.identity_update.specs.Reading.{Refuses, Writes}
use Rattle.identity_update.specs.declared.error.UpdateError.{UpdateError}
use Rattle.identity_update.specs.declared.error.UpdateError.TheVariants as update
use Rattle.refusal_lines.specs.Refusal.{refusal_line}
use Rattle.tool_commands.specs.Report.{report_of}
use Rattle.command_line.specs.Outcome.{Streams}
use Rattle.command_line.specs.declared.status.Status.{Status}
use Rattle.command_line.specs.declared.status.Status.TheVariants.{Done, Refused, Usage, SourceFailed, SinkFailed, OutOfMemory, TooLong, BadScript}

-- what `show` prints of a text of this width: the report of the update that it writes, as revision 1, or the line of the first rule that it breaks
abbrev pub Answers : ℕ → List ℕ → List ℕ → Status → Type 0
Answers width text printed Done = (u : UpdateParts) × Writes width text u × (printed ≡ report_of 1 u)
Answers width text printed Refused = (error : UpdateError) × (error ≢ update.OutOfMemory) × Refuses width text error × (printed ≡ refusal_line error)
Answers width text printed _ = ⊥

-- the input was read to its end, and its answer was written and nothing else
abbrev pub Answered : ℕ → Streams → Streams → Status → Type 0
Answered width before now status =
    IfSome before.left (λ text. IsAtEnd now.left × ((printed : List ℕ) × Answers width text printed status × Appends before.written now.written printed))

-- a first part of the answer was written
abbrev pub PartlyAnswered : ℕ → Streams → Streams → Type 0
PartlyAnswered width before now =
    IfSome before.left (λ text. (printed : List ℕ) × (Answers width text printed Done ⊎ Answers width text printed Refused)
    × AppendsPrefix before.written now.written printed)

-- what `show` at this width has done, by its status
abbrev pub Shows : ℕ → Streams → Streams → Status → Type 0
Shows width before now Done = Answered width before now Done
Shows width before now Refused = Answered width before now Refused
Shows width before now Usage = ⊥
Shows width before now SourceFailed = Rose before.read_faults now.read_faults
Shows width before now SinkFailed = Rose before.write_faults now.write_faults × PartlyAnswered width before now
Shows width before now OutOfMemory = Unit {0}
Shows width before now TooLong = Unit {0}
Shows width before now BadScript = ⊥
