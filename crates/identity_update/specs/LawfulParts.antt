-- Parts that break no rule, before their document is written.
use Rattle.std.specs.Prelude.{◌≡◌, ◌<◌, ◌^◌, length, map, option_map, string_bytes}
use Rattle.identity_update.specs.Bundle.{plain_bundle}
use Rattle.identity_update.specs.BundleMap.{bundle_map}
use Rattle.identity_update.specs.Canonical.{update_der}
use Rattle.identity_update.specs.KeptEntries.{AreKeptEntries, entries_of}
use Rattle.identity_update.specs.Lawful.{IsLawful}
use Rattle.identity_update.specs.Parts.{UpdateParts}
use Rattle.identity_update.specs.declared.assembly.LawfulParts.{LawfulParts}

abbrev pub update_of : LawfulParts → UpdateParts
update_of p = record { entries = entries_of p.entries; bundles = map plain_bundle p.bundles.parts.items; reason = option_map string_bytes p.reason }

-- they are the parts of a lawful update whose document is not too long, and the set is that of the bundles
pub record AreLawfulParts (p : LawfulParts) : Type 0 where
  pub entries : AreKeptEntries p.entries
  pub set : p.bundles.set ≡ bundle_map (map plain_bundle p.bundles.parts.items)
  pub lawful : IsLawful (update_of p)
  pub fits : length (update_der (update_of p)) < 2 ^ 32
