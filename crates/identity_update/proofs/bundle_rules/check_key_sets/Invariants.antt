use Rattle.std.proofs.Common.{◌≡◌, drop, map, take}
use Rattle.std.specs.List.{AllByRecursion}
use Rattle.identity_update.specs.Bundle.{plain_bundle}
use Rattle.identity_update.specs.BundleMap.{bundle_map}
use Rattle.identity_update.specs.Lawful.{HasCanonicalDomain}
use Rattle.identity_update.specs.PartsVerdict.{key_sets_check}
use Rattle.identity_update.proofs.bundle_rules.check_key_sets.Given as goal

abbrev pub invariant-loop-number : goal.invariant-loop-number
invariant-loop-number l = record {
  checked : key_sets_check l.number (map plain_bundle (drop l.number l.bundles)) ≡ key_sets_check 0 (map plain_bundle l.fn.bundles);
  domains : AllByRecursion HasCanonicalDomain (map plain_bundle (take l.number l.bundles));
  set : l.set ≡ bundle_map (map plain_bundle (take l.number l.bundles));
}
