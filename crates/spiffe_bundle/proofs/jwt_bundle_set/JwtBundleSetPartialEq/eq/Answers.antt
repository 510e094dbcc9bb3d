use Rattle.std.proofs.Common.{◌∙◌}
use Rattle.spiffe_bundle.specs.JwtBundle.{bundle_eq}
use Rattle.spiffe_bundle.proofs.StoredEntries.{stored_eq}
use Rattle.spiffe_bundle.proofs.jwt_bundle_set.JwtBundleSetPartialEq.eq.Goals as goal

pub returns : goal.returns
returns c = rw (← c.self.view_is, ← c.other.view_is) (c.eq.ensures
    ∙ stored_eq (λ domain. domain) bundle_eq c.self.inside.bundles.entries c.other.inside.bundles.entries)
