-- The content bytes of an object identifier, and what is shown of it.
use Rattle.std.specs.Prelude.{ℕ, List, ◌++◌, take, codes}
use Rattle.der_core.specs.Oid.{oid_text}
use Rattle.der_core.specs.declared.oid.ObjectIdentifier.{ObjectIdentifier}

abbrev pub oid_content : ObjectIdentifier → List ℕ
oid_content v = take v.len v.bytes

abbrev pub oid_debug : ObjectIdentifier → List ℕ
oid_debug v = codes "ObjectIdentifier(" ++ (oid_text (oid_content v) ++ codes ")")
