use Rattle.std.proofs.Common.{◌≡◌, ◌++◌}
use Rattle.std.specs.List.{flat_map}
use Rattle.std.specs.Map.{values_of}
use Rattle.tool_commands.specs.Report.{key_id_word}
use Rattle.tool_commands.proofs.report_lines.push_key_ids.Given as goal

abbrev pub invariant-loop-authority : goal.invariant-loop-authority
invariant-loop-authority l = l.out.items ++ flat_map key_id_word l.authority-iterator ≡ l.fn.out.items
    ++ flat_map key_id_word (values_of l.fn.bundle.authorities)
