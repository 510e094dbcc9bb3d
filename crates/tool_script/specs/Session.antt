-- What a session has done, where the source and the sink tell their bytes.
use Rattle.std.specs.Prelude.{◌≡◌, ◌⊎◌, ℕ, ◌<◌, List, [], ◌∷◌, length, Option, Some, IfSome, All}
use Rattle.std.specs.List.{flat_map}
use Rattle.std.specs.Io.KnownBytes.{Appends, Consumes}
use Rattle.identity_io.specs.Causes.{Rose}
use Rattle.identity_io.specs.Whole.{AppendsPrefix}
use Rattle.identity_source.specs.State.{PlainState, opening}
use Rattle.identity_source.specs.History.{IsHistory, StartsWith, first_revision}
use Rattle.identity_source.specs.NamedList.{NamedList}
use Rattle.identity_source.specs.Reader.{PlainReader}
use Rattle.command_line.specs.Outcome.{Streams}
use Rattle.command_line.specs.declared.status.Status.{Status}
use Rattle.command_line.specs.declared.status.Status.TheVariants.{Done, Refused, Usage, SourceFailed, SinkFailed, OutOfMemory, TooLong, BadScript}
use Rattle.tool_script.specs.Request.{PlainRequest, spelled, IsRequest}
use Rattle.tool_script.specs.Script.{Front, Script}
use Rattle.tool_script.specs.Replies.{AreReplies}
use Rattle.tool_script.specs.declared.request.Ending.{Ending}
use Rattle.tool_script.specs.declared.request.Ending.TheVariants as ending

-- the replies to these requests, by a source that opened at revision 0, were written and nothing else
abbrev pub WroteReplies : ℕ → List PlainRequest → Option (List ℕ) → Option (List ℕ) → Type 0
WroteReplies width requests written written' = (accepted : List PlainState)
    × ((text : List ℕ) × (AreReplies width (opening 0 ∷ []) requests accepted text × Appends written written' text))

-- a first part of them was written
abbrev pub WroteFirst : ℕ → List PlainRequest → Option (List ℕ) → Option (List ℕ) → Type 0
WroteFirst width requests written written' = (accepted : List PlainState)
    × ((text : List ℕ) × (AreReplies width (opening 0 ∷ []) requests accepted text × AppendsPrefix written written' text))

-- the input is a script with this ending, and the replies to its whole requests were written
abbrev pub Served : ℕ → Streams → Streams → Ending → Type 0
Served width before now e = IfSome before.left (λ bytes. (requests : List PlainRequest)
    × (Script bytes requests e × WroteReplies width requests before.written now.written))

-- the bytes that were taken are a script that stops short, and the replies to its whole requests were written
abbrev pub ServedTaken : ℕ → Streams → Streams → Type 0
ServedTaken width before now = (taken : List ℕ) × (Consumes before.left now.left taken
    × ((requests : List PlainRequest) × (Script taken requests ending.BadScript × WroteReplies width requests before.written now.written)))

-- a first part of the replies to whole requests at the front of the input was written
abbrev pub ServedFirst : ℕ → Streams → Streams → Type 0
ServedFirst width before now = IfSome before.left (λ bytes. (requests : List PlainRequest)
    × (Front bytes requests × WroteFirst width requests before.written now.written))

-- what a session at this width has done, by its status
abbrev pub Serves : ℕ → Streams → Streams → Status → Type 0
Serves width before now Done = Served width before now ending.Done
Serves width before now Refused = ⊥
Serves width before now Usage = ⊥
Serves width before now SourceFailed = Rose before.read_faults now.read_faults × ServedTaken width before now
Serves width before now SinkFailed = Rose before.write_faults now.write_faults × ServedFirst width before now
Serves width before now OutOfMemory = ServedFirst width before now
Serves width before now TooLong = Served width before now ending.TooLong
Serves width before now BadScript = Served width before now ending.BadScript

-- the input is a script that ends with `end`
abbrev pub EndsWell : Option (List ℕ) → Type 0
EndsWell left = (bytes : List ℕ) × ((left ≡ Some bytes) × ((requests : List PlainRequest) × Script bytes requests ending.Done))

-- a reader that was told of the source's states: where both are at one revision, they are in one state
pub record Attends (source : NamedList) (reader : PlainReader) : Type 0 where
  pub name : reader.sight.name ≡ source.name
  pub history : IsHistory source.list
  pub first : first_revision source.list ≡ 0
  pub read : IsHistory reader.list
  pub read_first : first_revision reader.list ≡ 0
  pub place : StartsWith reader.list source.list ⊎ (length source.list < length reader.list)

-- so far these requests were taken and answered
pub record Progress (width : ℕ) (start now written written' : Option (List ℕ)) (count : ℕ) (list : List PlainState) : Type 0 where
  pub requests : List PlainRequest
  pub taken : Consumes start now (flat_map spelled requests)
  pub lawful : All IsRequest requests
  pub counted : length requests ≡ count
  pub text : List ℕ
  pub replies : AreReplies width (opening 0 ∷ []) requests list text
  pub wrote : Appends written written' text
