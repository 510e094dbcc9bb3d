-- Manifests as the program has them.
use Rattle.std.specs.Prelude.{List, map, option_map}
use Rattle.pack_manifest.specs.Manifest.{Manifest, NamedBundle, NamedEntry}
use Rattle.pack_manifest.specs.declared.manifest.Manifest as program
use Rattle.pack_manifest.specs.declared.manifest.NamedBundle as bundle
use Rattle.pack_manifest.specs.declared.manifest.NamedEntry as entry

abbrev pub named_entry : entry.NamedEntry → NamedEntry
named_entry e = record { id = e.id.now; key = e.key.now; public_key = option_map (λ path. path.now) e.public_key }

abbrev pub named_bundle : bundle.NamedBundle → NamedBundle
named_bundle b = record { domain = b.domain.now; jwks = b.jwks.now }

abbrev pub manifest_named : program.Manifest → Manifest
manifest_named m = record { entries = map named_entry m.entries.items; bundles = map named_bundle m.bundles.items }
