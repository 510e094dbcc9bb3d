use Rattle.std.proofs.Common.{◌≡◌, ◌++◌}
use Rattle.std.specs.List.{flat_map}
use Rattle.tool_commands.specs.Report.{identity_line}
use Rattle.tool_commands.proofs.report_lines.push_identities.Given as goal

abbrev pub invariant-loop-identity : goal.invariant-loop-identity
invariant-loop-identity l = l.out.items ++ flat_map identity_line l.identity-iterator ≡ l.fn.out.items ++ flat_map identity_line l.fn.entries
