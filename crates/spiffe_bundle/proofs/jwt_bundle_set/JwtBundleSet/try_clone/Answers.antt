use Rattle.std.proofs.Common.{◌≡◌, ◌∷◌}
use Rattle.std.specs.Arc.{arc_value}
use Rattle.spiffe_bundle.specs.JwtBundleSet.{with_bundle}
use Rattle.spiffe_bundle.proofs.Loops.{copied_named}
use Rattle.spiffe_bundle.proofs.jwt_bundle_set.JwtBundleSet.try_clone.Goals as goal

pub loop-bundle-preserved : goal.loop-bundle-preserved
loop-bundle-preserved c =
    let bundle = arc_value c.in-Some.bundle.now in
    let step : c.loop-bundle.bundle-iterator ≡ (c.in-Some.field-0-0.now, bundle) ∷ c.next.new.self = c.in-Some.ensures.steps in
    let added : c.add_share.new.self ≡ with_bundle c.loop-bundle.copy bundle = rw c.in_ok-share.ensures at c.in_ok-add_share.ensures.ok in
    copied_named (λ b. b.trust_domain) c.args.self.now c.loop-bundle.copy c.add_share.new.self c.next.new.self c.in-Some.field-0-0.now bundle
    c.iter-bundle-items.ensures.ascending
    c.iter-bundle-items.ensures.named (rw step at c.loop-bundle.invariant) added
