-- What the borrowed entries and bundles of a document hold, as plain data.
use Rattle.std.specs.Prelude.{map, option_map}
use Rattle.der_core.specs.declared.any.AnyRef.{AnyRef}
use Rattle.der_small.specs.OctetString.{octets_ref}
use Rattle.der_small.specs.Utf8.{text_ref}
use Rattle.der_small.specs.declared.bit_string.BitStringRef.{BitStringRef}
use Rattle.der_small.specs.declared.octet_string.OctetStringRef.{OctetStringRef}
use Rattle.der_small.specs.declared.utf8.Utf8Ref.{Utf8Ref}
use Rattle.spki.specs.PlainPublicKey.{plain_public_key_ref}
use Rattle.spki.specs.declared.spki.SubjectPublicKeyInfo.{SubjectPublicKeyInfo}
use Rattle.pkcs8.specs.PlainPrivateKey.{plain_private_key_ref}
use Rattle.pkcs8.specs.declared.attributes.AttributesRef.{AttributesRef}
use Rattle.pkcs8.specs.declared.private_key_info.PrivateKeyInfo.{PrivateKeyInfo}
use Rattle.update_document.specs.Written.{WrittenEntry, WrittenBundle, WrittenUpdate}
use Rattle.update_document.specs.declared.document.DocumentFields.{DocumentFields}
use Rattle.update_document.specs.declared.fields.EntryFields.{EntryFields}
use Rattle.update_document.specs.declared.fields.BundleFields.{BundleFields}

abbrev pub EntryRef : Type 0
EntryRef = EntryFields Utf8Ref (PrivateKeyInfo AnyRef OctetStringRef BitStringRef AttributesRef) (SubjectPublicKeyInfo AnyRef BitStringRef)

abbrev pub BundleRef : Type 0
BundleRef = BundleFields Utf8Ref OctetStringRef

abbrev pub written_entry : EntryRef → WrittenEntry
written_entry e = record { text = text_ref e.text; private_key = plain_private_key_ref e.private_key; public_key = plain_public_key_ref e.public_key }

abbrev pub written_bundle : BundleRef → WrittenBundle
written_bundle b = record { text = text_ref b.text; jwks = octets_ref b.jwks }

abbrev pub written_update : DocumentFields EntryRef BundleRef → WrittenUpdate
written_update d = record { entries = map written_entry d.entries.items; bundles = map written_bundle d.bundles.items; reason = option_map text_ref d.reason }
