use Rattle.std.proofs.Common.{◌≡◌, ◌++◌, map, drop, option_map}
use Rattle.serde_json.specs.View.{items_view}
use Rattle.pack_manifest.specs.Manifest.{bundles_in}
use Rattle.pack_manifest.specs.Views.{named_bundle}
use Rattle.pack_manifest.proofs.manifest.bundles_in.Given as goal

abbrev pub invariant-loop-item : goal.invariant-loop-item
invariant-loop-item l = bundles_in (items_view l.items) ≡ option_map (λ more. map named_bundle l.bundles.items ++ more)
    (bundles_in (items_view (drop l.item-index l.items)))
