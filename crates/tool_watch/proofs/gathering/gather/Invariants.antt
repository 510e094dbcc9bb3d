use Rattle.std.proofs.Common.{◌-◌, ◌≤◌}
use Rattle.std.specs.Io.KnownBytes.{prepend_known}
use Rattle.tool_watch.specs.Asked.{Gathered, updates_in}
use Rattle.tool_watch.proofs.gathering.gather.Given as goal

abbrev pub invariant-requests : goal.invariant-requests
invariant-requests g l = record {
  gathered : Gathered (g.S.Source.left l.fn.input) (prepend_known l.ahead (g.S.Source.left l.input)) l.count l.most (updates_in l.asked.updates.items)
      l.asked.queries.items;
  few : l.count ≤ 10000;
  room : l.most ≤ 16777216;
  later : g.S.Source.faults l.fn.input ≤ g.S.Source.faults l.input;
}

abbrev pub decreases-requests : goal.decreases-requests
decreases-requests g l = 10001 - l.count
