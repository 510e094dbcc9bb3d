use Rattle.std.proofs.Common.{refl}
use Rattle.der_core.proofs.Compared.{bytes_partial}
use Rattle.der_small.proofs.laws.secret_documents_are_compared_by_bytes.Goals as goal

pub returns-clause-order : goal.returns-clause-order
returns-clause-order c = λ a b. (refl, bytes_partial a.document.bytes.items b.document.bytes.items)
