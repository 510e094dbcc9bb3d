use Rattle.std.proofs.Common.{◌≡◌, ◌++◌, ◌∷◌, [], map, rules, arith, ◌∙◌, None}
use Rattle.pack_manifest.specs.Views.{named_entry}
use Rattle.identity_update.specs.EntryParts.{plain_entry}
use Rattle.pack_update.specs.Packed.{EntryRules}
use Rattle.pack_update.proofs.Loops.{loop_done, loop_ended, loop_refused}
use Rattle.pack_update.proofs.entries.read_entries.Goals as goal

pub loop-number-preserved : goal.loop-number-preserved
loop-number-preserved g c = record {
  told = loop_done named_entry plain_entry (λ v. map plain_entry v) EntryRules
      c.args.named.now c.loop-number.number (record {
        id = record { ref_ptr = (0, 0); now = [] };
        key = record { ref_ptr = (0, 0); now = [] };
        public_key =
            None;
      }) c.loop-number.entries.items c.push.new.self.items c.in-Ok.entry c.loop-number-test.true c.in_ok-push-in-Ok.ensures.items
      c.loop-number.invariant.told c.loop-number.invariant.kept c.in-Ok.ensures.told;
  kept = c.in-Ok.ensures.kept ∙ c.loop-number.invariant.kept;
  later = omega (arith, c.in-Ok.ensures.later, c.loop-number.invariant.later);
}

pub returns-in-Err : goal.returns-in-Err
returns-in-Err g c =
    loop_refused named_entry plain_entry (λ v. map plain_entry v.items) EntryRules
    c.args.named.now c.loop-number.number (record {
      id = record { ref_ptr = (0, 0); now = [] };
      key = record { ref_ptr = (0, 0); now = [] };
      public_key =
          None;
    }) (map plain_entry c.loop-number.entries.items) c.in-Err.error c.loop-number-test.true c.loop-number.invariant.told
    c.loop-number.invariant.kept c.loop-number.invariant.later c.in-Err.ensures

pub returns : goal.returns
returns g c =
    loop_ended named_entry plain_entry (λ v. map plain_entry v.items) EntryRules
    c.args.named.now c.loop-number.number c.loop-number.entries c.loop-number-test.false c.loop-number.invariant.told c.loop-number.invariant.kept
    c.loop-number.invariant.later
