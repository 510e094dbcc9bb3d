use Rattle.std.proofs.Common.{◌≡◌, ◌++◌, drop, map}
use Rattle.spiffe_id.specs.Rules.{map_ok}
use Rattle.update_document.specs.Refs.{written_bundle}
use Rattle.identity_update.specs.Bundle.{plain_bundle}
use Rattle.identity_update.specs.BundleMap.{bundle_map}
use Rattle.identity_update.specs.Verdict.{bundles_check}
use Rattle.identity_update.proofs.bundle_rules.check_bundles.Given as goal

abbrev pub invariant-loop-number : goal.invariant-loop-number
invariant-loop-number l = record {
  checked : map_ok (λ more. map plain_bundle l.parts.items ++ more) (bundles_check l.number (map written_bundle (drop l.number l.bundles)))
      ≡ bundles_check 0 (map written_bundle l.fn.bundles);
  set : l.set ≡ bundle_map (map plain_bundle l.parts.items);
}
