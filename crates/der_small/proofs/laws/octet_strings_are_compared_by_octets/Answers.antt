use Rattle.std.proofs.Common.{refl}
use Rattle.der_core.proofs.Compared.{bytes_partial}
use Rattle.der_small.proofs.Compared.{bytes_decide}
use Rattle.der_small.proofs.laws.octet_strings_are_compared_by_octets.Goals as goal

pub returns-clause-equal : goal.returns-clause-equal
returns-clause-equal c = λ a b. bytes_decide 4 a.bytes.items b.bytes.items a.small b.small

pub returns-clause-order : goal.returns-clause-order
returns-clause-order c = λ a b. (refl, bytes_partial a.bytes.items b.bytes.items)
