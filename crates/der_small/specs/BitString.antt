-- A bit string as plain data, without where its bytes lie.
use Rattle.der_small.specs.Bits.{PlainBits}
use Rattle.der_small.specs.declared.bit_string.BitStringRef.{BitStringRef}
use Rattle.der_small.specs.declared.bit_string.BitString.{BitString}

abbrev pub plain_bits_ref : BitStringRef → PlainBits
plain_bits_ref v = record { unused_bits = v.unused_bits; octets = v.raw.now }

abbrev pub plain_bits : BitString → PlainBits
plain_bits v = record { unused_bits = v.unused_bits; octets = v.raw.items }
