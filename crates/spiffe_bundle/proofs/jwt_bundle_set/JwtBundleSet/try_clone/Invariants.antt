use Rattle.std.proofs.Common.{◌≡◌, ◌++◌}
use Rattle.spiffe_bundle.proofs.jwt_bundle_set.JwtBundleSet.try_clone.Given as goal

abbrev pub invariant-loop-bundle : goal.invariant-loop-bundle
invariant-loop-bundle l = l.copy ++ l.bundle-iterator ≡ l.fn.self
