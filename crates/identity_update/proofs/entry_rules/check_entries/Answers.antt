use Rattle.std.proofs.Common.{◌≡◌, [], ◌∷◌, ◌++◌, length, map, rules, arith}
use Rattle.std.proofs.lemmas.Grind.{common_steps}
use Rattle.std.specs.Prelude.{reverse}
use Rattle.update_document.specs.Refs.{written_entry}
use Rattle.identity_update.specs.Checked.{checked_entry}
use Rattle.identity_update.proofs.EntryLaws.{entry_after, entry_has_room, popped}
use Rattle.identity_update.proofs.VerdictLaws.{entry_has_one_key}
use Rattle.identity_update.proofs.entry_rules.check_entries.Goals as goal

pub append-requires-clause-one : goal.append-requires-clause-one
append-requires-clause-one c = entry_has_one_key c.len-in-Some.result (written_entry c.in-Some.entry) (checked_entry c.in_ok-checked.checked)
    c.in_ok-checked.ensures.ok

pub append-requires-clause-fits : goal.append-requires-clause-fits
append-requires-clause-fits c =
    let left = popped c.loop-entry.left.items c.pop.new.self.items c.in-Some.entry c.in-Some.ensures.items in
    entry_has_room c.loop-entry.writer.bytes.items c.loop-entry.kept.items (written_entry c.in-Some.entry)
    (map written_entry (reverse c.pop.new.self.items)) _ c.len-in-Some.result (checked_entry c.in_ok-checked.checked)
    (rw left at c.loop-entry.invariant) c.in_ok-checked.ensures.ok

pub loop-entry-preserved : goal.loop-entry-preserved
loop-entry-preserved c =
    let left = popped c.loop-entry.left.items c.pop.new.self.items c.in-Some.entry c.in-Some.ensures.items in
    let at : c.len-in-Some.result ≡ length c.loop-entry.kept.items = grind (arith, common_steps) in
    let pushed : c.push.new.self.items ≡ c.loop-entry.kept.items ++ c.in_ok-one.one ∷ [] = search rules in
    rw c.give_back.ensures.items
    (entry_after c.loop-entry.writer.bytes.items c.loop-entry.kept.items (written_entry c.in-Some.entry) (map written_entry (reverse c.pop.new.self.items))
    _ c.len-in-Some.result (checked_entry c.in_ok-checked.checked) c.in_ok-one.one c.append.new.writer.bytes.items c.push.new.self.items
    (rw left at c.loop-entry.invariant) at c.in_ok-checked.ensures.ok c.in_ok-one.ensures.written pushed c.in_ok-one.ensures.value c.in_ok-one.ensures.kept)
