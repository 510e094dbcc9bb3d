-- What `select` has done, where the source and the sink tell their bytes.
use Rattle.std.specs.Prelude.{◌≡◌, ◌≢◌, ◌<◌, ◌↔◌, ℕ, List, Option, IfSome, Result, Ok, Err}
use Rattle.std.specs.Io.KnownBytes.{Appends, IsAtEnd}
use Rattle.identity_io.specs.Causes.{Rose}
use Rattle.identity_io.specs.Whole.{AppendsPrefix}
use Rattle.command_line.specs.Outcome.{Calm, HasSize, IsCalm, IsUntouched, Streams, Within}
use Rattle.command_line.specs.declared.status.Status.{Status}
use Rattle.command_line.specs.declared.status.Status.TheVariants.{Done, Refused, Usage, SourceFailed, SinkFailed, OutOfMemory, TooLong, BadScript}
use Rattle.bundle_document.specs.Document.{Document, key_set_text}
use Rattle.bundle_document.specs.Reading.{document_of}
use Rattle.bundle_document.specs.declared.error.DocumentError.{DocumentError}
use Rattle.bundle_selection.specs.Refusal.{document_line}

-- what is printed of a document, or of the first rule that bytes break
abbrev pub selected_text : Result Document DocumentError → List ℕ
selected_text (Ok d) = key_set_text d.keys
selected_text (Err e) = document_line e

abbrev pub selected_status : Result Document DocumentError → Status
selected_status (Ok d) = Done
selected_status (Err e) = Refused

-- the input was read to its end, and the key set of its document, or the line of its refusal, was written and nothing else
abbrev pub Selected : Streams → Streams → Status → Type 0
Selected before now status = IfSome before.left (λ json. IsAtEnd now.left × (selected_status (document_of json) ≡ status)
    × Appends before.written now.written (selected_text (document_of json)))

-- a first part of that was written
abbrev pub PartlySelected : Streams → Streams → Type 0
PartlySelected before now = IfSome before.left (λ json. AppendsPrefix before.written now.written (selected_text (document_of json)))

-- what `select` has done, by its status
abbrev pub Selects : Streams → Streams → Status → Type 0
Selects before now Done = Selected before now Done
Selects before now Refused = Selected before now Refused
Selects before now Usage = ⊥
Selects before now SourceFailed = Rose before.read_faults now.read_faults
Selects before now SinkFailed = Rose before.write_faults now.write_faults × PartlySelected before now
Selects before now OutOfMemory = Unit {0}
Selects before now TooLong = Unit {0}
Selects before now BadScript = ⊥

-- so many words were run: there are some and nothing was begun, or there are none and the document was selected from
pub record HasRun (limit words : ℕ) (before now : Streams) (status : Status) (same_input same_output : Type 0) : Type 0 where
  pub usage : status ≡ Usage ↔ (0 < words)
  pub not_begun : status ≡ Usage → same_input × same_output
  pub selects : status ≢ Usage → Selects before now status
  pub size : HasSize limit before.left status
  pub untouched : IsUntouched status same_output
  pub calm : words ≡ 0 → Calm before.read_faults now.read_faults → Calm before.write_faults now.write_faults → Within limit before.left → IsCalm status
