use Rattle.std.proofs.Common.{refl}
use Rattle.der_core.proofs.Compared.{pair_partial}
use Rattle.der_small.proofs.Compared.{bits_decide}
use Rattle.der_small.proofs.laws.borrowed_bit_strings_are_compared_by_unused_bits_and_octets.Goals as goal

pub returns-clause-equal : goal.returns-clause-equal
returns-clause-equal c = λ a b. bits_decide a.unused_bits b.unused_bits a.raw.now b.raw.now a.are_bits b.are_bits

pub returns-clause-order : goal.returns-clause-order
returns-clause-order c = λ a b. (refl, pair_partial a.unused_bits b.unused_bits a.raw.now b.raw.now)
