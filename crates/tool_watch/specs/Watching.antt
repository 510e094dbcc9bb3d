-- What `watch` has done, where the source and the sink tell their bytes.
use Rattle.std.specs.Prelude.{◌≡◌, ℕ, List, Option, Some, IfSome}
use Rattle.std.specs.Io.KnownBytes.{Appends}
use Rattle.identity_io.specs.Causes.{Rose}
use Rattle.identity_io.specs.Whole.{AppendsPrefix}
use Rattle.command_line.specs.Outcome.{Streams}
use Rattle.command_line.specs.declared.status.Status.{Status}
use Rattle.command_line.specs.declared.status.Status.TheVariants.{Done, Refused, Usage, SourceFailed, SinkFailed, OutOfMemory, TooLong, BadScript}
use Rattle.tool_script.specs.Request.{PlainRequest}
use Rattle.tool_script.specs.Script.{WatchScript}
use Rattle.tool_script.specs.declared.request.Ending.TheVariants as ending
use Rattle.tool_watch.specs.Asked.{IsScript}
use Rattle.tool_watch.specs.WatchText.{WatchText}

-- the input is a script that ends with `end`, and a text that `watch` may write for it was written and nothing else
abbrev pub Watched : ℕ → ℕ → Streams → Streams → Type 0
Watched width workers before now = IfSome before.left (λ bytes. (requests : List PlainRequest) × (WatchScript bytes requests ending.Done
    × ((text : List ℕ) × (WatchText width workers requests text × Appends before.written now.written text))))

-- a first part of such a text was written
abbrev pub WatchedFirst : ℕ → ℕ → Streams → Streams → Type 0
WatchedFirst width workers before now = IfSome before.left (λ bytes. (requests : List PlainRequest) × (WatchScript bytes requests ending.Done
    × ((text : List ℕ) × (WatchText width workers requests text × AppendsPrefix before.written now.written text))))

-- nothing was written
abbrev pub WroteNothing : Streams → Streams → Type 0
WroteNothing before now = now.written ≡ before.written

-- what `watch` at this width and with so many workers has done, by its status
abbrev pub Watches : ℕ → ℕ → Streams → Streams → Status → Type 0
Watches width workers before now Done = Watched width workers before now
Watches width workers before now Refused = ⊥
Watches width workers before now Usage = ⊥
Watches width workers before now SourceFailed = Rose before.read_faults now.read_faults × WroteNothing before now
Watches width workers before now SinkFailed = Rose before.write_faults now.write_faults × WatchedFirst width workers before now
Watches width workers before now OutOfMemory = WroteNothing before now
Watches width workers before now TooLong = IsScript before.left ending.TooLong × WroteNothing before now
Watches width workers before now BadScript = IsScript before.left ending.BadScript × WroteNothing before now

-- the input is a script that ends with `end`, as `watch` reads it
abbrev pub EndsWell : Option (List ℕ) → Type 0
EndsWell left = (bytes : List ℕ) × ((left ≡ Some bytes) × ((requests : List PlainRequest) × WatchScript bytes requests ending.Done))
