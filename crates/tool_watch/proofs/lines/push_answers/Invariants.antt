use Rattle.std.proofs.Common.{◌≡◌, ◌++◌, take}
use Rattle.tool_watch.specs.WatchText.{answers_at}
use Rattle.tool_watch.proofs.lines.push_answers.Given as goal

abbrev pub invariant-loop-place : goal.invariant-loop-place
invariant-loop-place l = l.text.items ≡ l.fn.text.items ++ answers_at l.states (take l.place l.queries) (take l.place l.seen)
