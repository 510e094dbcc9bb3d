-- A manifest is packed to one answer.
use Rattle.std.proofs.Common.{ℕ, List, Option, Some, None, Err}
use Rattle.std.specs.Option.{ok_or}
use Rattle.identity_io.specs.Files.{file_at}
use Rattle.identity_update.specs.Parts.{Bundle, Entry}
use Rattle.identity_update.specs.PartsVerdict.{parts_verdict}
use Rattle.identity_update.specs.Verdict.{map_refusal}
use Rattle.pkcs8.specs.PlainPrivateKey.{PlainPrivateKey}
use Rattle.serde_json.specs.Data.{Data}
use Rattle.spiffe_id.specs.SpiffeId.{Id, id_of}
use Rattle.spiffe_id.specs.TrustDomain.{trust_domain_of}
use Rattle.pack_manifest.specs.Manifest.{Manifest, NamedBundle, NamedEntry, json_check, shape_check}
use Rattle.pack_update.proofs.OnePrivateKey.{one_private_key}
use Rattle.pack_update.proofs.OnePublicKey.{one_public_key}
use Rattle.pack_update.proofs.OneRule.{OneBeside, is_one, one_each, one_is, one_mapped, one_or_fault, one_refused_as, one_then}
use Rattle.pack_update.specs.KeyFiles.{ReadsPrivateKeyFile, ReadsPublicKeyFile, whole_file}
use Rattle.pack_update.specs.OneAnswer.{PackedIsOneAnswer}
use Rattle.pack_update.specs.Packed.{BundleRules, DomainRule, EntryRules, Files, JsonRule, KeyRules, KeySetRule, ManifestRule, PackedParts, PackedText}
use Rattle.pack_update.specs.Packed.{PrivateKeyRule, PublicKeyRule, ShapeRule, SubjectRule, UpdateRule, bundle_of, entry_of, own_public_key, width_check}
use Rattle.pack_update.specs.Rules.{Each, Is, Mapped, RefusedAs, Then}
use Rattle.pack_update.specs.declared.error.FileError.TheVariants as file
use Rattle.pack_manifest.specs.declared.error.ManifestError.TheVariants as manifest
use Rattle.pack_update.specs.declared.error.PackError.TheVariants as broken

one_private : (files : Files) (n : ℕ) (path : List ℕ) → OneBeside (PrivateKeyRule files n path)
one_private files n path =
    one_or_fault (RefusedAs (broken.KeyFile n) (ReadsPrivateKeyFile (file_at path files)))
    (one_refused_as (broken.KeyFile n) (ReadsPrivateKeyFile (file_at path files)) (one_private_key (file_at path files)))

one_public : (files : Files) (n : ℕ) (path : Option (List ℕ)) (key : PlainPrivateKey) → OneBeside (PublicKeyRule files n path key)
one_public files n (Some path) key =
    one_or_fault (RefusedAs (broken.PublicFile n) (ReadsPublicKeyFile (file_at path files)))
    (one_refused_as (broken.PublicFile n) (ReadsPublicKeyFile (file_at path files)) (one_public_key (file_at path files)))
one_public files n None key = one_is (ok_or (own_public_key key) (broken.NoPublicKey n))

one_keys : (files : Files) (n : ℕ) (named : NamedEntry) (id : Id) → OneBeside (KeyRules files n named id)
one_keys files n named id =
    one_then (PrivateKeyRule files n named.key) (λ key. Mapped (entry_of id key) (PublicKeyRule files n named.public_key key)) (one_private files n named.key)
    (λ key. one_mapped (entry_of id key) (PublicKeyRule files n named.public_key key) (one_public files n named.public_key key))

one_entry : (files : Files) (n : ℕ) (named : NamedEntry) → OneBeside (EntryRules files n named)
one_entry files n named =
    one_then (SubjectRule n named.id) (KeyRules files n named) (one_is (map_refusal (broken.Subject n) (id_of named.id))) (one_keys files n named)

one_key_set : (files : Files) (n : ℕ) (path : List ℕ) → OneBeside (KeySetRule files n path)
one_key_set files n path =
    let expected = whole_file (broken.JwksFile n file.Missing) (broken.JwksFile n file.TooLong) (file_at path files) in
    one_or_fault (Is expected) (is_one expected)

one_bundle : (files : Files) (n : ℕ) (named : NamedBundle) → OneBeside (BundleRules files n named)
one_bundle files n named =
    one_then (DomainRule n named.domain) (λ domain. Mapped (bundle_of domain) (KeySetRule files n named.jwks))
    (one_is (map_refusal (broken.Domain n) (trust_domain_of named.domain)))
    (λ domain. one_mapped (bundle_of domain) (KeySetRule files n named.jwks) (one_key_set files n named.jwks))

one_update : (entries : List Entry) (bundles : List Bundle) → OneBeside (UpdateRule entries bundles)
one_update entries bundles = one_is (map_refusal broken.Update (parts_verdict (record { entries = entries; bundles = bundles; reason = None })))

one_parts : (files : Files) (m : Manifest) → OneBeside (PackedParts files m)
one_parts files m =
    one_then (Each (EntryRules files) 0 m.entries) (λ entries. Then (Each (BundleRules files) 0 m.bundles) (UpdateRule entries))
    (one_each (EntryRules files) (one_entry files) 0 m.entries)
    (λ entries. one_then (Each (BundleRules files) 0 m.bundles) (UpdateRule entries) (one_each (BundleRules files) (one_bundle files) 0 m.bundles)
    (one_update entries))

one_text : (files : Files) (text : List ℕ) → OneBeside (PackedText files text)
one_text files text =
    one_then (JsonRule text) (λ d. Then (ShapeRule text d) (PackedParts files)) (one_is (map_refusal broken.Manifest (json_check text)))
    (λ d. one_then (ShapeRule text d) (PackedParts files) (one_is (map_refusal broken.Manifest (shape_check text d))) (one_parts files))

one_manifest : (files : Files) (path : List ℕ) → OneBeside (ManifestRule files path)
one_manifest files path =
    let expected = whole_file (broken.Manifest manifest.Missing) (broken.Manifest manifest.TooLong) (file_at path files) in
    one_or_fault (Is expected) (is_one expected)

pub one_packed : PackedIsOneAnswer
one_packed files path width =
    one_then (Is (width_check width)) (λ _. Then (ManifestRule files path) (PackedText files)) (one_is (width_check width))
    (λ _. one_then (ManifestRule files path) (PackedText files) (one_manifest files path) (one_text files))
