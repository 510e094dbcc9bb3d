use Rattle.std.proofs.Common.{◌≡◌, ◌≤◌, ◌+◌, All, Some, vec_len, vec_capacity}
use Rattle.left_right.specs.Sides.{view}
use Rattle.identity_source.specs.State.{opening}
use Rattle.identity_source.specs.Reader.{IsFresh}
use Rattle.identity_source.proofs.open.seat_all.Given as goal

abbrev pub invariant-loop-kept : goal.invariant-loop-kept
invariant-loop-kept l = record {
  room : vec_len l.seated + vec_len l.shares ≡ vec_len l.initial.shares;
  fits : vec_len l.initial.shares ≤ vec_capacity l.seated;
  shares : All (λ s. s ≡ opening l.first) l.shares.items;
  fresh : All (IsFresh l.mark) l.seated.items;
  view : view l.writer.desk.place ≡ Some l.mark;
  shown : l.writer.desk.shown.value ≡ l.initial.writer.desk.shown.value;
}

abbrev pub decreases-loop-kept : goal.decreases-loop-kept
decreases-loop-kept l = vec_len l.shares
