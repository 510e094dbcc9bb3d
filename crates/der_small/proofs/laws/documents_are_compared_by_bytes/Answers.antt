use Rattle.std.proofs.Common.{refl}
use Rattle.der_core.proofs.Compared.{bytes_partial}
use Rattle.der_small.proofs.laws.documents_are_compared_by_bytes.Goals as goal

pub returns-clause-order : goal.returns-clause-order
returns-clause-order c = λ a b. (refl, bytes_partial a.bytes.items b.bytes.items)
