-- The line of a broken rule.
use Rattle.std.specs.Prelude.{ℕ, List, [], ◌++◌, codes, decimal}
use Rattle.refusal_lines.specs.Refusal.{refusal_line}
use Rattle.pack_manifest.specs.ManifestError.{manifest_rule}
use Rattle.pack_update.specs.FileError.{file_rule}
use Rattle.pack_update.specs.declared.error.PackError.{PackError}
use Rattle.pack_update.specs.declared.error.PackError.TheVariants.{Width, Manifest, Subject, KeyFile, PublicFile, NoPublicKey, Domain, JwksFile, Update, Fault}
use Rattle.pack_update.specs.declared.error.PackError.TheVariants.{OutOfMemory}
use Rattle.identity_update.specs.declared.error.UpdateError.TheVariants as update

-- a rule is broken: neither did the disk fail nor was memory wanted
abbrev pub IsRule : PackError → Type 0
IsRule Fault = ⊥
IsRule OutOfMemory = ⊥
IsRule _ = Unit {0}

-- the line of a broken rule: where it is broken, counted from 0, and which rule it is. What is no rule has none.
abbrev pub pack_line : PackError → List ℕ
pack_line Width = codes "refused: width\n"
pack_line (Manifest cause) = codes "refused: manifest: " ++ (manifest_rule cause ++ codes "\n")
pack_line (Subject entry cause) = refusal_line (update.Subject entry cause)
pack_line (KeyFile entry cause) = codes "refused: entry " ++ (decimal entry ++ (codes ": key file: " ++ (file_rule cause ++ codes "\n")))
pack_line (PublicFile entry cause) = codes "refused: entry " ++ (decimal entry ++ (codes ": public file: " ++ (file_rule cause ++ codes "\n")))
pack_line (NoPublicKey entry) = codes "refused: entry " ++ (decimal entry ++ codes ": no public key\n")
pack_line (Domain bundle cause) = refusal_line (update.Domain bundle cause)
pack_line (JwksFile bundle cause) = codes "refused: bundle " ++ (decimal bundle ++ (codes ": key set file: " ++ (file_rule cause ++ codes "\n")))
pack_line (Update error) = refusal_line error
pack_line Fault = []
pack_line OutOfMemory = []
