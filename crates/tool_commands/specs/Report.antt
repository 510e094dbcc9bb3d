-- The bytes of a report.
use Rattle.std.specs.Prelude.{ℕ, List, [], ◌∷◌, ◌++◌, Option, Some, None, codes, decimal, length}
use Rattle.std.specs.List.{flat_map}
use Rattle.std.specs.Map.{values_of}
use Rattle.der_core.specs.Oid.{oid_text}
use Rattle.spiffe_id.specs.SpiffeId.{id_text}
use Rattle.spiffe_bundle.specs.JwtAuthority.{Authority}
use Rattle.spiffe_bundle.specs.JwtBundle.{Bundle as Keys}
use Rattle.spiffe_bundle.specs.JwtBundleSet.{Bundles}
use Rattle.spki.specs.Fingerprint.{fingerprint_of}
use Rattle.spki.specs.PlainPublicKey.{public_key_der}
use Rattle.identity_update.specs.Parts.{Entry, UpdateParts}
use Rattle.identity_update.specs.BundleMap.{bundle_map}
use Rattle.tool_commands.specs.Printed.{printed}

-- the line of an entry: its SPIFFE ID, its algorithm and the fingerprint of its public key
abbrev pub identity_line : Entry → List ℕ
identity_line e = codes "identity " ++ (id_text e.id ++ (codes " " ++ (oid_text e.public_key.algorithm.oid
    ++ (codes " " ++ (fingerprint_of (public_key_der e.public_key) ++ codes "\n")))))

-- a key ID behind a blank
abbrev pub key_id_word : Authority → List ℕ
key_id_word a = 32 ∷ printed a.key_id

-- a trust domain, how many keys it has, and their key IDs in ascending order
abbrev pub bundle_words : List ℕ → Keys → List ℕ
bundle_words name keys = name ++ (codes " " ++ (decimal (length keys.authorities) ++ (flat_map key_id_word (values_of keys.authorities) ++ codes "\n")))

-- the line of a trust domain
abbrev pub bundle_line : List ℕ × Keys → List ℕ
bundle_line b = codes "bundle " ++ bundle_words b.0 b.1

-- the line of a reason, where there is one
abbrev pub withdrawn_line : Option (List ℕ) → List ℕ
withdrawn_line None = []
withdrawn_line (Some reason) = codes "withdrawn " ++ (printed reason ++ codes "\n")

-- the lines of a state: its revision, its reason, each entry in its order, and each trust domain in ascending order
abbrev pub report_lines : ℕ → Option (List ℕ) → List Entry → Bundles → List ℕ
report_lines revision reason entries bundles = codes "revision " ++ (decimal revision ++ (codes "\n"
    ++ (withdrawn_line reason ++ (flat_map identity_line entries ++ flat_map bundle_line bundles))))

-- the report of an update as this revision
abbrev pub report_of : ℕ → UpdateParts → List ℕ
report_of revision u = report_lines revision u.reason u.entries (bundle_map u.bundles)
