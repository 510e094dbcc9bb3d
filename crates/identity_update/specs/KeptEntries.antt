-- Entries whose encodings are kept one behind the other, with the places of their parts in these.
use Rattle.std.specs.Prelude.{◌≡◌, ℕ, List, map}
use Rattle.std.specs.List.{flat_map}
use Rattle.update_document.specs.Spelling.{entry_der}
use Rattle.identity_update.specs.Canonical.{canonical_entry}
use Rattle.identity_update.specs.Kept.{AreKept, kept_entry}
use Rattle.identity_update.specs.Parts.{Entry}
use Rattle.identity_update.specs.declared.kept.KeptEntries.{KeptEntries}
use Rattle.identity_update.specs.declared.kept.KeptEntry.{KeptEntry}

-- what is written of the entries
abbrev pub entries_der : List Entry → List ℕ
entries_der entries = flat_map entry_der (map canonical_entry entries)

-- the bytes are what is written of the entries that are kept of them
pub record AreWritten (written : List ℕ) (es : List KeptEntry) : Type 0 where
  pub kept : AreKept written es
  pub are : written ≡ entries_der (map (kept_entry written) es)

abbrev pub entries_of : KeptEntries → List Entry
entries_of k = map (kept_entry k.written.items) k.entries.items

abbrev pub AreKeptEntries : KeptEntries → Type 0
AreKeptEntries k = AreWritten k.written.items k.entries.items
