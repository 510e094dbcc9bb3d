use Rattle.std.proofs.Common.{◌∙◌}
use Rattle.std.specs.Vec.Iter.{into_iter_items}
use Rattle.spiffe_bundle.proofs.Loops.{partly_extended}
use Rattle.spiffe_bundle.proofs.jwt_bundle_set.JwtBundleSet.try_extend.Goals as goal

pub returns-in_err-add_bundle-clause-partly : goal.returns-in_err-add_bundle-clause-partly
returns-in_err-add_bundle-clause-partly c =
    partly_extended c.from_residual.result c.args.self.now c.add_bundle.new.self c.args.bundles.items c.loop-bundle.yielded
    (into_iter_items c.next.new.self) c.in-Some.bundle
    (rw c.in-Some.ensures.steps.0 at c.loop-bundle.invariant.left) (c.in_err-add_bundle.ensures.kept ∙ c.loop-bundle.invariant.so_far)
