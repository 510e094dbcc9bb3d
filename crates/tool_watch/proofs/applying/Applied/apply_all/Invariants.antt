use Rattle.std.proofs.Common.{◌≡◌, take}
use Rattle.tool_watch.specs.Applied.{HaveReplies, IsKept}
use Rattle.tool_watch.specs.Asked.{updates_in}
use Rattle.tool_watch.proofs.applying.Applied.apply_all.Given as goal

abbrev pub invariant-loop-place : goal.invariant-loop-place
invariant-loop-place g l = record {
  done : HaveReplies l.width l.fn.source.list (updates_in (take l.place l.texts)) l.source.list l.fn.self.replies.items l.self.replies.items;
  kept : IsKept l.source.list l.self.states.items;
  name : l.source.name ≡ l.fn.source.name;
}
