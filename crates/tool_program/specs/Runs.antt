-- What each command has done, by its status.
use Rattle.std.specs.Prelude.{◌≡◌, ◌≢◌, ◌⊎◌, ◌↔◌, ℕ, List, Option}
use Rattle.tool_commands.specs.Made.{Makes}
use Rattle.command_line.specs.Outcome.{Calm, HasSize, IsCalm, IsUntouched, Streams, Within}
use Rattle.tool_commands.specs.Outcome.{Shows}
use Rattle.command_line.specs.declared.status.Status.{Status}
use Rattle.command_line.specs.declared.status.Status.TheVariants.{Done, Usage, OutOfMemory}
use Rattle.tool_script.specs.Session.{EndsWell, Serves}
use Rattle.tool_watch.specs.Watching.{Watches}
use Rattle.tool_watch.specs.Watching as watching
use Rattle.tool_program.specs.declared.words.Command.{Command}
use Rattle.tool_program.specs.declared.words.Command.TheVariants.{Show, Serve, Watch, Make}
use Rattle.tool_program.specs.Words.{IsCommand, IsUsage}

-- the limit is the most bytes of an input that is read whole
abbrev pub Runs : ℕ → Command → Streams → Streams → Status → Type 0
Runs limit (Show width) before now status = Shows width before now status × HasSize limit before.left status
Runs limit (Serve width) before now status = Serves width before now status
Runs limit (Watch width workers) before now status = Watches width workers before now status
Runs limit (Make n) before now status = Makes n before.written before.write_faults now.written now.write_faults status

-- the input is as it was, where the command reads nothing
abbrev pub LeavesInput : Command → Type 0 → Type 0
LeavesInput (Show width) same = Unit {0}
LeavesInput (Serve width) same = Unit {0}
LeavesInput (Watch width workers) same = Unit {0}
LeavesInput (Make n) same = same

-- the output is as it was, where the command writes only what is whole
abbrev pub LeavesOutput : Command → Status → Type 0 → Type 0
LeavesOutput (Show width) status same = IsUntouched status same
LeavesOutput (Serve width) status same = Unit {0}
LeavesOutput (Watch width workers) status same = Unit {0}
LeavesOutput (Make n) status same = IsUntouched status same

-- an input that the command can do
abbrev pub IsReady : ℕ → Command → Option (List ℕ) → Type 0
IsReady limit (Show width) left = Within limit left
IsReady limit (Serve width) left = EndsWell left
IsReady limit (Watch width workers) left = watching.EndsWell left
IsReady limit (Make n) left = Unit {0}

-- how the command ends on such an input where no fault comes
abbrev pub EndsCalmly : Command → Status → Type 0
EndsCalmly (Show width) status = IsCalm status
EndsCalmly (Serve width) status = (status ≡ Done) ⊎ (status ≡ OutOfMemory)
EndsCalmly (Watch width workers) status = (status ≡ Done) ⊎ (status ≡ OutOfMemory)
EndsCalmly (Make n) status = (status ≡ Done) ⊎ (status ≡ OutOfMemory)

-- the command came to its end: what it has done, what it left, and how it ends where nothing hinders it
pub record Ran (limit : ℕ) (command : Command) (before now : Streams) (status : Status) (same_input same_output : Type 0) : Type 0 where
  pub runs : Runs limit command before now status
  pub input : LeavesInput command same_input
  pub output : LeavesOutput command status same_output
  pub calm : Calm before.read_faults now.read_faults → Calm before.write_faults now.write_faults → IsReady limit command before.left → EndsCalmly command status

-- the words were run: they are no command and nothing was begun, or their command came to its end
pub record HasRun (limit : ℕ) (words : List (List ℕ)) (before now : Streams) (status : Status) (same_input same_output : Type 0) : Type 0 where
  pub usage : status ≡ Usage ↔ IsUsage words
  pub not_begun : status ≡ Usage → same_input × same_output
  pub ran : status ≢ Usage → (command : Command) × IsCommand words command × Ran limit command before now status same_input same_output
