use Rattle.std.proofs.Common.{map}
use Rattle.std.specs.Vec.Iter.{into_iter_items}
use Rattle.identity_update.specs.Checked.{checked_entry}
use Rattle.identity_update.proofs.EntryLaws.{PairsSoFar}
use Rattle.identity_update.proofs.entry_rules.check_pairs.Given as goal

abbrev pub invariant-loop-entry : goal.invariant-loop-entry
invariant-loop-entry l = PairsSoFar l.writer.bytes.items l.kept.items (map checked_entry (into_iter_items l.entry-iterator))
    (map checked_entry l.fn.entries.items)
