use Rattle.std.proofs.Common.{◌∙◌, ap, refl}
use Rattle.std.specs.Arc.{arc_value}
use Rattle.spiffe_bundle.specs.JwtBundleSet.{stored_bundles}
use Rattle.spiffe_bundle.proofs.MapEntries.{named_with}
use Rattle.spiffe_bundle.proofs.StoredEntries.{stored_added}
use Rattle.spiffe_bundle.proofs.jwt_bundle_set.JwtBundleSet.add_share.Goals as goal

pub returns-clause-ok : goal.returns-clause-ok
returns-clause-ok c =
    let bundle = arc_value c.args.bundle in
    stored_added (λ domain. domain) c.args.self.now c.self.inside.bundles.entries _ c.in_ok-domain.domain c.args.bundle bundle.trust_domain bundle
    c.self.view_is
    c.in_ok-insert.ensures.entries (c.in_ok-domain.ensures ∙ c.trust_domain.ensures ∙ ap (λ b. b.trust_domain) c.deref.ensures) refl

pub invariant_of-self-2 : goal.invariant_of-self-2
invariant_of-self-2 c =
    let was = stored_bundles c.self.inside.bundles.entries in
    let bundle = arc_value c.args.bundle in
    rw (stored_added (λ domain. domain) was c.self.inside.bundles.entries _ c.in_ok-domain.domain c.args.bundle bundle.trust_domain bundle refl
    c.in_ok-insert.ensures.entries (c.in_ok-domain.ensures ∙ c.trust_domain.ensures ∙ ap (λ b. b.trust_domain) c.deref.ensures) refl)
    (named_with (λ b. b.trust_domain) bundle.trust_domain bundle was refl c.self.invariant)
