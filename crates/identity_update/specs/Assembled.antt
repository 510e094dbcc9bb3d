-- What entries and bundles make, with a reason.
use Rattle.std.specs.Prelude.{ℕ, List, Option, map, option_map}
use Rattle.std.specs.List.{flat_map}
use Rattle.der_core.specs.Der.{encode}
use Rattle.der_small.specs.Utf8.{text_ref}
use Rattle.der_small.specs.declared.utf8.Utf8Ref.{Utf8Ref}
use Rattle.update_document.specs.Spelling.{bundle_der, fields_written}
use Rattle.identity_update.specs.Bundle.{plain_bundle}
use Rattle.identity_update.specs.Canonical.{canonical_bundle}
use Rattle.identity_update.specs.Checked.{checked_entry}
use Rattle.identity_update.specs.Parts.{UpdateParts}
use Rattle.identity_update.specs.declared.bundle.BundleParts.{BundleParts}
use Rattle.identity_update.specs.declared.entry.CheckedEntry.{CheckedEntry}

abbrev pub assembled : List CheckedEntry → List BundleParts → Option Utf8Ref → UpdateParts
assembled entries bundles reason = record { entries = map checked_entry entries; bundles = map plain_bundle bundles; reason = option_map text_ref reason }

-- the document around entries that are written
abbrev pub document_of : List ℕ → List BundleParts → Option Utf8Ref → List ℕ
document_of written bundles reason = encode 48 (fields_written written (flat_map bundle_der (map canonical_bundle (map plain_bundle bundles)))
    (option_map text_ref reason))
