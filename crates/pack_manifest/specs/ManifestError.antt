-- What is wrong with a manifest, in words.
use Rattle.std.specs.Prelude.{ℕ, List, codes}
use Rattle.pack_manifest.specs.declared.error.ManifestError.{ManifestError}
use Rattle.pack_manifest.specs.declared.error.ManifestError.TheVariants.{Missing, TooLong, Syntax, Number, Shape}

abbrev pub manifest_rule : ManifestError → List ℕ
manifest_rule Missing = codes "missing"
manifest_rule TooLong = codes "too long"
manifest_rule Syntax = codes "invalid JSON"
manifest_rule Number = codes "number not allowed"
manifest_rule Shape = codes "bad shape"
