-- The content of attributes.
use Rattle.std.specs.Prelude.{ℕ, List}
use Rattle.pkcs8.specs.declared.attributes.Attributes.{Attributes}
use Rattle.pkcs8.specs.declared.attributes.AttributesRef.{AttributesRef}

abbrev pub attributes_bytes_ref : AttributesRef → List ℕ
attributes_bytes_ref v = v.content.now

abbrev pub attributes_bytes : Attributes → List ℕ
attributes_bytes v = v.content.items
