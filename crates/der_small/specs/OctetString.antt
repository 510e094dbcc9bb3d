-- The octets of an octet string.
use Rattle.std.specs.Prelude.{ℕ, List}
use Rattle.der_small.specs.declared.octet_string.OctetStringRef.{OctetStringRef}
use Rattle.der_small.specs.declared.octet_string.OctetString.{OctetString}

abbrev pub octets_ref : OctetStringRef → List ℕ
octets_ref v = v.bytes.now

abbrev pub octets : OctetString → List ℕ
octets v = v.bytes.items
