-- What was read of a document.
use Rattle.std.specs.Prelude.{option_map}
use Rattle.der_small.specs.Utf8.{text_ref}
use Rattle.update_document.specs.Document.{DocumentOf}
use Rattle.update_document.specs.declared.document.DocumentFields.{DocumentFields}

abbrev pub document_of : {E B : Type 0} → DocumentFields E B → DocumentOf E B
document_of d = record { entries = d.entries.items; bundles = d.bundles.items; reason = option_map text_ref d.reason }
