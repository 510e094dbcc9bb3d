-- What a manifest and its files are packed to: an update, or the first rule that they break, in the order of the rules. Entries and bundles count from 0.
use Rattle.std.specs.Prelude.{ℕ, nat_lt, List, Option, Some, None, option_map, Result, Ok, Err, if◌then◌else◌}
use Rattle.std.specs.Option.{ok_or}
use Rattle.identity_io.specs.Files.{file_at}
use Rattle.identity_update.specs.Parts.{Bundle, Entry, UpdateParts}
use Rattle.identity_update.specs.PartsVerdict.{parts_verdict}
use Rattle.identity_update.specs.Verdict.{map_refusal}
use Rattle.pkcs8.specs.PlainPrivateKey.{PlainPrivateKey}
use Rattle.serde_json.specs.Data.{Data}
use Rattle.spiffe_id.specs.SpiffeId.{Id, id_of}
use Rattle.spiffe_id.specs.TrustDomain.{trust_domain_of}
use Rattle.spki.specs.PlainPublicKey.{PlainPublicKey}
use Rattle.pack_update.specs.KeyFiles.{ReadsPrivateKeyFile, ReadsPublicKeyFile, whole_file}
use Rattle.pack_manifest.specs.Manifest.{Manifest, NamedBundle, NamedEntry, json_check, shape_check}
use Rattle.pack_update.specs.Rules.{Each, Is, Mapped, OrFault, RefusedAs, Then}
use Rattle.pack_update.specs.declared.error.FileError.TheVariants as file
use Rattle.pack_manifest.specs.declared.error.ManifestError.TheVariants as manifest
use Rattle.pack_update.specs.declared.error.PackError.{PackError}
use Rattle.pack_update.specs.declared.error.PackError.TheVariants as broken

abbrev pub Files : Type 0
Files = List (List ℕ × List ℕ)

-- a line of the text has at least 4 characters
abbrev pub width_check : ℕ → Result (Unit {0}) PackError
width_check width = if nat_lt width 4 then Err broken.Width else Ok tt

-- the text of the manifest at this path
abbrev pub ManifestRule : Files → List ℕ → Result (List ℕ) PackError → Type 0
ManifestRule files path = OrFault (Is (whole_file (broken.Manifest manifest.Missing) (broken.Manifest manifest.TooLong) (file_at path files)))

-- the SPIFFE ID of the entry with this number
abbrev pub SubjectRule : ℕ → List ℕ → Result Id PackError → Type 0
SubjectRule n text = Is (map_refusal (broken.Subject n) (id_of text))

-- the private key of the entry with this number
abbrev pub PrivateKeyRule : Files → ℕ → List ℕ → Result PlainPrivateKey PackError → Type 0
PrivateKeyRule files n path = OrFault (RefusedAs (broken.KeyFile n) (ReadsPrivateKeyFile (file_at path files)))

-- the public key that the document of a private key holds, with the algorithm of that key
abbrev pub own_public_key : PlainPrivateKey → Option PlainPublicKey
own_public_key key = option_map (λ held. record { algorithm = key.algorithm; key = held }) key.public_key

-- the public key of the entry with this number: of its file, or else of its private key's document
abbrev pub PublicKeyRule : Files → ℕ → Option (List ℕ) → PlainPrivateKey → Result PlainPublicKey PackError → Type 0
PublicKeyRule files n (Some path) key = OrFault (RefusedAs (broken.PublicFile n) (ReadsPublicKeyFile (file_at path files)))
PublicKeyRule files n None key = Is (ok_or (own_public_key key) (broken.NoPublicKey n))

abbrev pub entry_of : Id → PlainPrivateKey → PlainPublicKey → Entry
entry_of id private_key public_key = record { id = id; private_key = private_key; public_key = public_key }

-- the keys of the entry with this number, and the entry of them
abbrev pub KeyRules : Files → ℕ → NamedEntry → Id → Result Entry PackError → Type 0
KeyRules files n named id =
    Then (PrivateKeyRule files n named.key) (λ key. Mapped (entry_of id key) (PublicKeyRule files n named.public_key key))

-- the entry with this number: its SPIFFE ID and its keys
abbrev pub EntryRules : Files → ℕ → NamedEntry → Result Entry PackError → Type 0
EntryRules files n named = Then (SubjectRule n named.id) (KeyRules files n named)

-- the trust domain of the bundle with this number
abbrev pub DomainRule : ℕ → List ℕ → Result (List ℕ) PackError → Type 0
DomainRule n text = Is (map_refusal (broken.Domain n) (trust_domain_of text))

-- the key set of the bundle with this number, as it is written
abbrev pub KeySetRule : Files → ℕ → List ℕ → Result (List ℕ) PackError → Type 0
KeySetRule files n path = OrFault (Is (whole_file (broken.JwksFile n file.Missing) (broken.JwksFile n file.TooLong) (file_at path files)))

abbrev pub bundle_of : List ℕ → List ℕ → Bundle
bundle_of domain jwks = record { trust_domain = domain; jwks = jwks }

-- the bundle with this number: its trust domain and its key set
abbrev pub BundleRules : Files → ℕ → NamedBundle → Result Bundle PackError → Type 0
BundleRules files n named = Then (DomainRule n named.domain) (λ domain. Mapped (bundle_of domain) (KeySetRule files n named.jwks))

-- the update of these entries and bundles
abbrev pub UpdateRule : List Entry → List Bundle → Result UpdateParts PackError → Type 0
UpdateRule entries bundles = Is (map_refusal broken.Update (parts_verdict (record { entries = entries; bundles = bundles; reason = None })))

-- the entries and then the bundles of a manifest, and the update of them
abbrev pub PackedParts : Files → Manifest → Result UpdateParts PackError → Type 0
PackedParts files m = Then (Each (EntryRules files) 0 m.entries) (λ entries. Then (Each (BundleRules files) 0 m.bundles) (UpdateRule entries))

-- the JSON value of a manifest's text
abbrev pub JsonRule : List ℕ → Result Data PackError → Type 0
JsonRule text = Is (map_refusal broken.Manifest (json_check text))

-- the manifest that the value of this text is
abbrev pub ShapeRule : List ℕ → Data → Result Manifest PackError → Type 0
ShapeRule text d = Is (map_refusal broken.Manifest (shape_check text d))

-- what the text of a manifest is packed to
abbrev pub PackedText : Files → List ℕ → Result UpdateParts PackError → Type 0
PackedText files text = Then (JsonRule text) (λ d. Then (ShapeRule text d) (PackedParts files))

-- what the manifest at this path is packed to, for lines of this width
abbrev pub Packed : Files → List ℕ → ℕ → Result UpdateParts PackError → Type 0
Packed files path width = Then (Is (width_check width)) (λ _. Then (ManifestRule files path) (PackedText files))
