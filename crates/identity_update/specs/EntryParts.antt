-- Entries and bundles that an update is made of, as plain data.
use Rattle.std.specs.Prelude.{List, None, map}
use Rattle.spki.specs.PlainPublicKey.{plain_public_key}
use Rattle.pkcs8.specs.PlainPrivateKey.{plain_private_key}
use Rattle.identity_update.specs.Bundle.{plain_bundle}
use Rattle.identity_update.specs.Parts.{Entry, UpdateParts}
use Rattle.identity_update.specs.declared.bundle.BundleParts.{BundleParts}
use Rattle.identity_update.specs.declared.entry_parts.EntryParts.{EntryParts}

abbrev pub plain_entry : EntryParts → Entry
plain_entry e = record { id = e.id; private_key = plain_private_key e.private_key; public_key = plain_public_key e.public_key }

-- the update of these entries and bundles, without a reason
abbrev pub listed : List EntryParts → List BundleParts → UpdateParts
listed entries bundles = record { entries = map plain_entry entries; bundles = map plain_bundle bundles; reason = None }
