use Rattle.std.proofs.Common.{string_bytes}
use Rattle.spiffe_bundle.proofs.StoredEntries.{stored_values, stored_ascends}
use Rattle.spiffe_bundle.proofs.jwt_bundle.JwtBundle.jwt_authorities.Goals as goal

pub returns-clause-all : goal.returns-clause-all
returns-clause-all c = rw (← c.self.view_is, c.values.ensures.rest) (stored_values string_bytes c.self.inside.jwt_authorities.entries)

pub returns-clause-ascending : goal.returns-clause-ascending
returns-clause-ascending c = rw (← c.self.view_is) (stored_ascends string_bytes c.self.inside.jwt_authorities.entries c.values.ensures.ordered)
