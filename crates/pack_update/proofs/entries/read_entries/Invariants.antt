use Rattle.std.proofs.Common.{◌≡◌, ◌≤◌, map, drop}
use Rattle.std.specs.Option.{ForSome}
use Rattle.pack_manifest.specs.Views.{named_entry}
use Rattle.identity_update.specs.EntryParts.{plain_entry}
use Rattle.pack_update.specs.Packed.{EntryRules}
use Rattle.pack_update.proofs.Steps.{Progress}
use Rattle.pack_update.proofs.entries.read_entries.Given as goal

abbrev pub invariant-loop-number : goal.invariant-loop-number
invariant-loop-number g l = record {
  told : ForSome (g.D.Disk.files l.fn.disk) (λ files. Progress (EntryRules files) (map named_entry l.named) (map plain_entry l.entries.items) l.number
      (map named_entry (drop l.number l.named)));
  kept : g.D.Disk.files l.disk ≡ g.D.Disk.files l.fn.disk;
  later : g.D.Disk.faults l.fn.disk ≤ g.D.Disk.faults l.disk;
}
