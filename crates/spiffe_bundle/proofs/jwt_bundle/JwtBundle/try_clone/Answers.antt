use Rattle.std.proofs.Common.{string_bytes}
use Rattle.spiffe_bundle.proofs.StoredEntries.{stored_clone}
use Rattle.spiffe_bundle.proofs.jwt_bundle.JwtBundle.try_clone.Goals as goal

pub returns-clause-ok : goal.returns-clause-ok
returns-clause-ok c =
    rw (
      ← c.self.view_is,
      c.in_ok-trust_domain.ensures,
      stored_clone string_bytes c.self.inside.jwt_authorities.entries
          c.in_ok-jwt_authorities.jwt_authorities.entries c.in_ok-jwt_authorities.ensures.cases,
    )

pub invariant_of-result : goal.invariant_of-result
invariant_of-result c =
    rw (stored_clone string_bytes c.self.inside.jwt_authorities.entries c.in_ok-jwt_authorities.jwt_authorities.entries
    c.in_ok-jwt_authorities.ensures.cases) c.self.invariant
