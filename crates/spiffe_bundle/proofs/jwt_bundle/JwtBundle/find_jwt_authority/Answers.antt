use Rattle.std.proofs.Common.{string_bytes}
use Rattle.spiffe_bundle.specs.JwtBundle.{stored_authorities}
use Rattle.spiffe_bundle.proofs.StoredEntries.{named_found, stored_found}
use Rattle.spiffe_bundle.proofs.jwt_bundle.JwtBundle.find_jwt_authority.Goals as goal

pub returns-clause-found : goal.returns-clause-found
returns-clause-found c = rw (← c.self.view_is) (stored_found string_bytes c.args.key_id.now c.self.inside.jwt_authorities.entries c.get.result
    c.get.ensures.value)

pub returns-clause-named : goal.returns-clause-named
returns-clause-named c =
    named_found (λ a. a.key_id) c.args.key_id.now (stored_authorities c.self.inside.jwt_authorities.entries) c.get.result c.self.invariant
    (stored_found string_bytes c.args.key_id.now c.self.inside.jwt_authorities.entries c.get.result c.get.ensures.value)
