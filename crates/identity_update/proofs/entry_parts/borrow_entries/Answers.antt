use Rattle.std.proofs.Common.{◌≡◌, [], ◌∷◌, ◌++◌, rules}
use Rattle.identity_update.specs.EntryParts.{plain_entry}
use Rattle.identity_update.proofs.PartsLaws.{all_more, borrowed_more}
use Rattle.identity_update.proofs.entry_parts.borrow_entries.Goals as goal

pub loop-entry-preserved : goal.loop-entry-preserved
loop-entry-preserved c =
    let pushed : c.push.new.self.items ≡ c.loop-entry.borrowed.items ++ c.in_ok-borrow_entry.field-0 ∷ [] = search rules in
    record {
      borrowed = borrowed_more c.loop-entry.entry-index c.args.entries.now c.entry-item.result c.loop-entry.borrowed.items c.push.new.self.items
          c.in_ok-borrow_entry.field-0 c.loop-entry-test.true c.entry-item.is c.in_ok-borrow_entry.ensures.ok pushed c.loop-entry.invariant.borrowed;
      ids = all_more plain_entry _ c.loop-entry.entry-index c.args.entries.now c.entry-item.result c.loop-entry-test.true c.entry-item.is
          c.loop-entry.invariant.ids c.borrow_entry.ensures.id;
    }
