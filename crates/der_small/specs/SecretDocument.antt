-- The bytes of a secret document, and what is shown of it.
use Rattle.std.specs.Prelude.{ℕ, List, ◌++◌, codes}
use Rattle.std.specs.Fmt.{decimal}
use Rattle.der_small.specs.Document.{document_bytes}
use Rattle.der_small.specs.declared.secret_document.SecretDocument.{SecretDocument}

abbrev pub secret_bytes : SecretDocument → List ℕ
secret_bytes v = document_bytes v.document

abbrev pub secret_debug : ℕ → List ℕ
secret_debug len = codes "SecretDocument { len: " ++ (decimal len ++ codes " }")
