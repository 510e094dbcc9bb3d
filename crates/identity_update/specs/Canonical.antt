-- The one document of an update: each id in its canonical text, private keys without extensions, key sets as they were written, and the reason last.
use Rattle.std.specs.Prelude.{ℕ, List, map}
use Rattle.spiffe_id.specs.SpiffeId.{id_text}
use Rattle.update_document.specs.Spelling.{document_der}
use Rattle.update_document.specs.Written.{WrittenBundle, WrittenEntry, WrittenUpdate}
use Rattle.identity_update.specs.Parts.{Entry, Bundle, UpdateParts}

abbrev pub canonical_entry : Entry → WrittenEntry
canonical_entry e = record { text = id_text e.id; private_key = e.private_key; public_key = e.public_key }

abbrev pub canonical_bundle : Bundle → WrittenBundle
canonical_bundle b = record { text = b.trust_domain; jwks = b.jwks }

abbrev pub canonical : UpdateParts → WrittenUpdate
canonical u = record { entries = map canonical_entry u.entries; bundles = map canonical_bundle u.bundles; reason = u.reason }

abbrev pub update_der : UpdateParts → List ℕ
update_der u = document_der (canonical u)
