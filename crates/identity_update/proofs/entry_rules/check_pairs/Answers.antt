use Rattle.std.proofs.Common.{◌≡◌, [], ◌∷◌, ◌++◌, length, map, sym, rules, arith}
use Rattle.std.proofs.lemmas.Grind.{common_steps}
use Rattle.std.specs.Vec.Iter.{into_iter_items}
use Rattle.identity_update.specs.Checked.{checked_entry}
use Rattle.identity_update.proofs.EntryLaws.{pair_after}
use Rattle.identity_update.proofs.entry_rules.check_pairs.Goals as goal

pub loop-entry-preserved : goal.loop-entry-preserved
loop-entry-preserved c =
    let steps = c.in-Some.ensures.steps.0 in
    let at : c.len-in-loop-entry.result ≡ length c.loop-entry.kept.items = grind (arith, common_steps) in
    let pushed : c.push.new.self.items ≡ c.loop-entry.kept.items ++ c.in_ok-one.one ∷ [] = search rules in
    pair_after c.loop-entry.writer.bytes.items c.loop-entry.kept.items (checked_entry c.in-Some.entry) (map checked_entry (into_iter_items c.next.new.self))
    _ c.len-in-loop-entry.result c.in_ok-one.one c.append.new.writer.bytes.items c.push.new.self.items (rw steps at c.loop-entry.invariant) at
    (sym c.in_ok-check_keys.ensures) c.in_ok-one.ensures.written pushed c.in_ok-one.ensures.value c.in_ok-one.ensures.kept
