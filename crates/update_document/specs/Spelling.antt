-- How an update document is written.
use Rattle.std.specs.Prelude.{ℕ, List, [], ◌++◌, Option, Some, None}
use Rattle.std.specs.List.{flat_map}
use Rattle.der_core.specs.Der.{encode}
use Rattle.spki.specs.PlainPublicKey.{public_key_der}
use Rattle.pkcs8.specs.PlainPrivateKey.{private_key_der}
use Rattle.update_document.specs.Written.{WrittenEntry, WrittenBundle, WrittenUpdate}

abbrev pub entry_content : WrittenEntry → List ℕ
entry_content e = encode 12 e.text ++ (private_key_der e.private_key ++ public_key_der e.public_key)

abbrev pub entry_der : WrittenEntry → List ℕ
entry_der e = encode 48 (entry_content e)

abbrev pub bundle_content : WrittenBundle → List ℕ
bundle_content b = encode 12 b.text ++ encode 4 b.jwks

abbrev pub bundle_der : WrittenBundle → List ℕ
bundle_der b = encode 48 (bundle_content b)

abbrev pub reason_der : Option (List ℕ) → List ℕ
reason_der None = []
reason_der (Some text) = encode 128 text

-- the fields of a document behind its list of entries, from what is written of its bundles
abbrev pub fields_behind : List ℕ → Option (List ℕ) → List ℕ
fields_behind bundles reason = encode 48 bundles ++ reason_der reason

-- the fields of a document, from what is written of its entries and of its bundles
abbrev pub fields_written : List ℕ → List ℕ → Option (List ℕ) → List ℕ
fields_written entries bundles reason = encode 48 entries ++ fields_behind bundles reason

abbrev pub document_content : WrittenUpdate → List ℕ
document_content u = fields_written (flat_map entry_der u.entries) (flat_map bundle_der u.bundles) u.reason

-- what is written of an update: extensions of private keys are not
abbrev pub document_der : WrittenUpdate → List ℕ
document_der u = encode 48 (document_content u)
