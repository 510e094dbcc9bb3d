use Rattle.spiffe_bundle.specs.JwtBundleSet.{stored_bundles}
use Rattle.spiffe_bundle.proofs.StoredEntries.{named_found, stored_found}
use Rattle.spiffe_bundle.proofs.jwt_bundle_set.JwtBundleSet.get_ref.Goals as goal

pub returns-clause-found : goal.returns-clause-found
returns-clause-found c = rw (← c.self.view_is) (stored_found (λ domain. domain) c.args.trust_domain.now c.self.inside.bundles.entries c.get.result
    c.get.ensures.value)

pub returns-clause-named : goal.returns-clause-named
returns-clause-named c =
    named_found (λ b. b.trust_domain) c.args.trust_domain.now (stored_bundles c.self.inside.bundles.entries) c.get.result c.self.invariant
    (stored_found (λ domain. domain) c.args.trust_domain.now c.self.inside.bundles.entries c.get.result c.get.ensures.value)
