use Rattle.std.proofs.Common.{◌≡◌, map}
use Rattle.identity_update.specs.EntryParts.{plain_entry}
use Rattle.tool_commands.specs.Made.{made_entries}
use Rattle.tool_commands.proofs.made_entries.entries.Given as goal

abbrev pub invariant-loop-i : goal.invariant-loop-i
invariant-loop-i l = map plain_entry l.entries.items ≡ made_entries l.i
