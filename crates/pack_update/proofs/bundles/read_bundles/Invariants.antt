use Rattle.std.proofs.Common.{◌≡◌, ◌≤◌, map, drop}
use Rattle.std.specs.Option.{ForSome}
use Rattle.pack_manifest.specs.Views.{named_bundle}
use Rattle.identity_update.specs.Bundle.{plain_bundle}
use Rattle.pack_update.specs.Packed.{BundleRules}
use Rattle.pack_update.proofs.Steps.{Progress}
use Rattle.pack_update.proofs.bundles.read_bundles.Given as goal

abbrev pub invariant-loop-number : goal.invariant-loop-number
invariant-loop-number g l = record {
  told : ForSome (g.D.Disk.files l.fn.disk) (λ files. Progress (BundleRules files) (map named_bundle l.named) (map plain_bundle l.bundles.items) l.number
      (map named_bundle (drop l.number l.named)));
  kept : g.D.Disk.files l.disk ≡ g.D.Disk.files l.fn.disk;
  later : g.D.Disk.faults l.fn.disk ≤ g.D.Disk.faults l.disk;
}
