-- The bytes of a document.
use Rattle.std.specs.Prelude.{ℕ, List}
use Rattle.der_small.specs.declared.document.Document.{Document}

abbrev pub document_bytes : Document → List ℕ
document_bytes v = v.bytes.items
