use Rattle.std.proofs.Common.{◌≡◌}
use Rattle.std.specs.Prelude.{option_map}
use Rattle.tool_commands.specs.Made.{last_line}
use Rattle.tool_commands.proofs.Made.{last_of}
use Rattle.tool_commands.proofs.making.push_last.Given as goal

abbrev pub invariant-loop-entry : goal.invariant-loop-entry
invariant-loop-entry l = last_of (option_map (λ id. id.now) l.last) l.entry-iterator ≡ last_line l.fn.entries
