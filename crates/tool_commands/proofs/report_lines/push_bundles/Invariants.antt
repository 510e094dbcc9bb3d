use Rattle.std.proofs.Common.{◌≡◌, ◌++◌}
use Rattle.std.specs.List.{flat_map}
use Rattle.tool_commands.specs.Report.{bundle_line}
use Rattle.tool_commands.proofs.report_lines.push_bundles.Given as goal

abbrev pub invariant-loop-name : goal.invariant-loop-name
invariant-loop-name l = l.out.items ++ flat_map bundle_line l.name-iterator ≡ l.fn.out.items ++ flat_map bundle_line l.fn.bundles
