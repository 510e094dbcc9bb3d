use Rattle.std.proofs.Common.{◌≡◌, ◌++◌, ◌-◌}
use Rattle.std.specs.List.{repeat}
use Rattle.tool_commands.proofs.made_entries.repeated.Given as goal

abbrev pub invariant-loop : goal.invariant-loop
invariant-loop l = l.all.items ++ repeat (l.times - l.counter) l.bytes ≡ repeat l.times l.bytes
