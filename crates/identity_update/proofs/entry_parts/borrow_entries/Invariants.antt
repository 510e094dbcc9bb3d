use Rattle.std.proofs.Common.{◌≡◌, map, take}
use Rattle.std.specs.List.{AllByRecursion}
use Rattle.identity_update.specs.Checked.{checked_entry}
use Rattle.identity_update.specs.EntryParts.{plain_entry}
use Rattle.identity_update.specs.Lawful.{HasCanonicalId}
use Rattle.identity_update.proofs.entry_parts.borrow_entries.Given as goal

abbrev pub invariant-loop-entry : goal.invariant-loop-entry
invariant-loop-entry l = record {
  borrowed : map checked_entry l.borrowed.items ≡ map plain_entry (take l.entry-index l.entries);
  ids : AllByRecursion HasCanonicalId (map plain_entry (take l.entry-index l.entries));
}
