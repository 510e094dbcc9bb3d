use Rattle.spiffe_bundle.proofs.StoredEntries.{stored_ascends}
use Rattle.spiffe_bundle.proofs.jwt_bundle_set.JwtBundleSet.iter.Goals as goal

pub returns-clause-ascending : goal.returns-clause-ascending
returns-clause-ascending c = rw (← c.self.view_is) (stored_ascends (λ domain. domain) c.self.inside.bundles.entries c.iter.ensures.ordered)
