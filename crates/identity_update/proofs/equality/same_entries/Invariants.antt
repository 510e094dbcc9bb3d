use Rattle.std.proofs.Common.{◌≡◌}
use Rattle.std.specs.Cmp.Lexicographic.{pointwise}
use Rattle.identity_update.specs.SameUpdate.{same_entry}
use Rattle.identity_update.proofs.equality.same_entries.Given as goal

abbrev pub invariant-loop-first : goal.invariant-loop-first
invariant-loop-first l =
    (goal.iterator-loop-first).can_next l.a × (goal.iterator-loop-first).is_finite l.a × (pointwise same_entry l.a l.b ≡ pointwise same_entry l.fn.a l.fn.b)
