use Rattle.std.proofs.Common.{◌≡◌, ◌++◌}
use Rattle.std.specs.Vec.Iter.{into_iter_items}
use Rattle.spiffe_bundle.specs.JwtBundleSet.{with_bundles}
use Rattle.spiffe_bundle.proofs.jwt_bundle_set.JwtBundleSet.try_extend.Given as goal

abbrev pub invariant-loop-bundle : goal.invariant-loop-bundle
invariant-loop-bundle l = record {
  so_far : l.self ≡ with_bundles l.fn.self l.yielded;
  left : l.fn.bundles.items ≡ l.yielded ++ into_iter_items l.bundle-iterator;
}
