use Rattle.std.proofs.Common.{◌≡◌, ◌++◌, map}
use Rattle.tool_watch.specs.WatchText.{workers_at}
use Rattle.tool_watch.proofs.lines.push_workers.Given as goal

abbrev pub invariant-loop-number : goal.invariant-loop-number
invariant-loop-number l = l.text.items ≡ l.fn.text.items ++ workers_at l.states l.queries (map (λ revisions. revisions.items) l.seen) l.number
