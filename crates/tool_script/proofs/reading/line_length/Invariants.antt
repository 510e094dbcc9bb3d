use Rattle.std.proofs.Common.{length, ◌-◌, ◌≤◌}
use Rattle.std.specs.Io.KnownBytes.{Keeps, prepend_known}
use Rattle.tool_script.proofs.reading.line_length.Given as goal

abbrev pub invariant-pieces : goal.invariant-pieces
invariant-pieces g l = record {
  pending : Keeps (prepend_known l.fn.ahead (g.S.Source.left l.fn.source)) (prepend_known l.ahead (g.S.Source.left l.source));
  later : g.S.Source.faults l.fn.source ≤ g.S.Source.faults l.source;
}

abbrev pub decreases-pieces : goal.decreases-pieces
decreases-pieces g l = 4097 - length l.ahead
