use Rattle.std.proofs.Common.{◌∙◌, string_bytes}
use Rattle.spiffe_bundle.specs.JwtAuthority.{authority_eq}
use Rattle.spiffe_bundle.proofs.StoredEntries.{stored_eq}
use Rattle.spiffe_bundle.proofs.jwt_bundle.JwtBundlePartialEq.eq.Goals as goal

pub returns-then-eq : goal.returns-then-eq
returns-then-eq c =
    rw (← c.self.view_is, ← c.other.view_is, ← c.eq.ensures, c.if-eq.true)
    (c.eq-then-eq.ensures ∙ stored_eq string_bytes authority_eq c.self.inside.jwt_authorities.entries c.other.inside.jwt_authorities.entries)
