use Rattle.std.proofs.Common.{map, vec_len}
use Rattle.std.specs.Prelude.{reverse}
use Rattle.update_document.specs.Refs.{written_entry}
use Rattle.identity_update.specs.Verdict.{entries_check}
use Rattle.identity_update.proofs.EntryLaws.{EntriesSoFar}
use Rattle.identity_update.proofs.entry_rules.check_entries.Given as goal

abbrev pub invariant-loop-entry : goal.invariant-loop-entry
invariant-loop-entry l = EntriesSoFar l.writer.bytes.items l.kept.items (map written_entry (reverse l.left.items))
    (entries_check 0 (map written_entry l.fn.entries.items))

abbrev pub decreases-loop-entry : goal.decreases-loop-entry
decreases-loop-entry l = vec_len l.left
