use Rattle.std.proofs.Common.{◌-◌, ◌≤◌}
use Rattle.std.specs.Io.KnownBytes.{prepend_known}
use Rattle.tool_script.specs.Session.{Attends, Progress}
use Rattle.tool_script.proofs.serving.serve.Given as goal

abbrev pub invariant-requests : goal.invariant-requests
invariant-requests g l = record {
  progress : Progress l.width (g.S.Source.left l.fn.input) (prepend_known l.ahead (g.S.Source.left l.input)) (g.K.Sink.written l.fn.out)
      (g.K.Sink.written l.out) l.count l.source.list;
  attends : Attends l.source l.reader;
  few : l.count ≤ 10000;
  read : g.S.Source.faults l.fn.input ≤ g.S.Source.faults l.input;
  wrote : g.K.Sink.faults l.fn.out ≤ g.K.Sink.faults l.out;
}

abbrev pub decreases-requests : goal.decreases-requests
decreases-requests g l = 10001 - l.count
