use Rattle.std.proofs.Common.{◌≡◌, ◌++◌, drop}
use Rattle.tool_commands.specs.Printed.{printed}
use Rattle.tool_commands.proofs.printed.push_printed.Given as goal

abbrev pub invariant-loop-byte : goal.invariant-loop-byte
invariant-loop-byte l = l.out.items ++ printed (drop l.byte-index l.text) ≡ l.fn.out.items ++ printed l.fn.text
