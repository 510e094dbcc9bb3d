-- The order of bit strings: by unused bits, and then by octets.
use Rattle.std.specs.Prelude.{◌++◌}
use Rattle.std.specs.Hash as fed
use Rattle.std.specs.Hash.{HashWrites}
use Rattle.std.specs.Ordering.{nat_cmp, ordering_then}
use Rattle.std.specs.declared.cmp.Ordering.{Ordering}
use Rattle.der_core.specs.Order.{bytes_hashed, bytes_order}
use Rattle.der_small.specs.Bits.{PlainBits}

abbrev pub bits_order : PlainBits → PlainBits → Ordering
bits_order a b = ordering_then (nat_cmp a.unused_bits b.unused_bits) (bytes_order a.octets b.octets)

abbrev pub bits_hashed : PlainBits → HashWrites
bits_hashed v = fed.u8 v.unused_bits ++ bytes_hashed v.octets
