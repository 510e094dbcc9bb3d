-- The document of an update is read as what it writes.
use Rattle.std.proofs.Common.{◌≡◌, ℕ, ◌<◌, ◌^◌, Bool, true, false, List, [], ◌∷◌, ◌++◌, length, map, Option, Some, None, option_map, IfSome, Result, Ok, refl}
use Rattle.std.proofs.Common.{sym, ap, subst, ◌∙◌, if◌then◌else◌}
use Rattle.std.specs.List.{AllByRecursion, flat_map}
use Rattle.std.specs.Str.{IsUtf8}
use Rattle.der_core.specs.Der.{IsTag, encode}
use Rattle.der_core.specs.Laws.{content_fits}
use Rattle.der_core.specs.SequenceLaws.{front_fits, rest_fits}
use Rattle.update_document.specs.Elements.{Elements}
use Rattle.der_small.specs.Bits.{AreBits, BitsContent, PlainBits}
use Rattle.spiffe_id.specs.SpiffeId.{id_text}
use Rattle.spki.specs.PlainAlgorithm.{IsAlgorithm}
use Rattle.spki.specs.PlainPublicKey.{public_key_der}
use Rattle.pkcs8.specs.PlainPrivateKey.{PlainPrivateKey, ReadsPrivateKey, bits_content, plain_reads, plain_texts, private_key_der}
use Rattle.pkcs8.specs.PrivateKey.{fields_written}
use Rattle.pkcs8.proofs.WrittenKeys.{fits_of, written_fields}
use Rattle.spiffe_bundle.specs.JwtBundleSet.{Bundles}
use Rattle.update_document.specs.Document.{IsReasonText, ReadsReason}
use Rattle.update_document.specs.Spelling.{bundle_content, bundle_der, entry_content, entry_der, reason_der}
use Rattle.update_document.specs.Written.{ReadsBundle, ReadsEntry, ReadsText, ReadsUpdate}
use Rattle.update_document.proofs.OneLaws.{update_one}
use Rattle.identity_update.specs.Canonical.{canonical, canonical_bundle, canonical_entry, update_der}
use Rattle.identity_update.specs.Kept.{AreKept, IsKeptUpdate, IsPlaced, kept_algorithm, kept_any, kept_bits, kept_entry, kept_update}
use Rattle.identity_update.specs.Lawful.{HasCanonicalDomain, HasCanonicalId}
use Rattle.identity_update.specs.Parts.{Bundle, Entry, UpdateParts}
use Rattle.identity_update.specs.Place.{part}
use Rattle.identity_update.specs.Verdict.{verdict}
use Rattle.identity_update.specs.declared.bundle.BundleParts.{BundleParts}
use Rattle.identity_update.specs.declared.error.UpdateError.{UpdateError}
use Rattle.identity_update.specs.declared.kept.KeptAny.{KeptAny}
use Rattle.identity_update.specs.declared.kept.KeptEntry.{KeptEntry}
use Rattle.identity_update.specs.declared.place.Place.{Place}
use Rattle.identity_update.proofs.NamesAgain.{domain_utf8, id_utf8}

kept_parameters : (document : List ℕ) (k : Option KeptAny) → IfSome (option_map (kept_any document) k) (λ p. IsTag p.tag)
kept_parameters document None = tt
kept_parameters document (Some k) = k.tag.valid

algorithm_kept : (document : List ℕ) (e : KeptEntry) → IsAlgorithm (kept_algorithm document e)
algorithm_kept document e = record { oid = e.oid.holds.content; parameters = kept_parameters document e.parameters }

some_attributes : (document : List ℕ) (t : Option Place) → IfSome (option_map (part document) t) (λ t. plain_reads.attributes (plain_texts.attributes t) t)
some_attributes document None = tt
some_attributes document (Some t) = refl

some_bits : (holds : Bool) (k : PlainBits) → AreBits k.unused_bits k.octets → IfSome (if holds then Some k else None) (λ k. BitsContent (bits_content k) k)
some_bits true k bits = record { bits = bits; is = refl }
some_bits false k bits = tt

private_key_reads : (document : List ℕ) (e : KeptEntry) → IsPlaced document e → length (private_key_der (kept_entry document e).private_key) < 2 ^ 32
    → ReadsPrivateKey (private_key_der (kept_entry document e).private_key) (kept_entry document e).private_key
private_key_reads document e placed fits =
    let key : PlainPrivateKey = (kept_entry document e).private_key in
    let fields = content_fits 48 (fields_written plain_texts key) fits in
    let fit = fits_of plain_texts key fields in
    record {
      content = fields_written plain_texts key;
      is = refl;
      fits = fits;
      has = written_fields plain_reads plain_texts key (record {
        algorithm = record { is = refl; fits = fit.algorithm; lawful = algorithm_kept document e };
        private_key = record { content = key.private_key; has = refl; is = refl; fits = fit.private_key };
        attributes = some_attributes document e.attributes;
        public_key = some_bits e.holds_public_key (kept_bits document e) placed.are_bits;
      }) fields;
    }

text_reads : (text : List ℕ) → IsUtf8 text → length (encode 12 text) < 2 ^ 32 → ReadsText (encode 12 text) text
text_reads text utf8 fits = record { content = text; has = (refl, utf8); is = refl; fits = fits }

-- the document of an entry is read as that entry
entry_reads : (document : List ℕ) (e : KeptEntry) → IsPlaced document e → HasCanonicalId (kept_entry document e)
    → length (entry_der (canonical_entry (kept_entry document e))) < 2 ^ 32
    → ReadsEntry (entry_der (canonical_entry (kept_entry document e))) (canonical_entry (kept_entry document e))
entry_reads document e placed id fits =
    let v : Entry = kept_entry document e in
    let text : List ℕ = encode 12 (id_text e.id) in
    let private : List ℕ = private_key_der v.private_key in
    let public : List ℕ = public_key_der v.public_key in
    let content = content_fits 48 (entry_content (canonical_entry v)) fits in
    let keys = rest_fits text (private ++ public) content in
    record {
      content = entry_content (canonical_entry v);
      is = refl;
      fits = fits;
      has = record {
        front = text;
        rest = private ++ public;
        is = refl;
        reads = text_reads (id_text e.id) (id_utf8 e.id id) (front_fits text (private ++ public) content);
        next = record {
          front = private;
          rest = public;
          is = refl;
          reads = private_key_reads document e placed (front_fits private public keys);
          next = record { is = refl; fits = rest_fits private public keys; lawful = record { algorithm = algorithm_kept document e; key = placed.are_bits } };
        };
      };
    }

bundle_reads : (b : Bundle) → IsUtf8 b.trust_domain → length (bundle_der (canonical_bundle b)) < 2 ^ 32
    → ReadsBundle (bundle_der (canonical_bundle b)) (canonical_bundle b)
bundle_reads b utf8 fits =
    let text : List ℕ = encode 12 b.trust_domain in
    let jwks : List ℕ = encode 4 b.jwks in
    let content = content_fits 48 (bundle_content (canonical_bundle b)) fits in
    record {
      content = bundle_content (canonical_bundle b);
      is = refl;
      fits = fits;
      has = record {
        front = text;
        rest = jwks;
        is = refl;
        reads = text_reads b.trust_domain utf8 (front_fits text jwks content);
        next = record { content = b.jwks; has = refl; is = refl; fits = rest_fits text jwks content };
      };
    }

entries_read : (document : List ℕ) (es : List KeptEntry) → AreKept document es → AllByRecursion HasCanonicalId (map (kept_entry document) es)
    → length (flat_map entry_der (map canonical_entry (map (kept_entry document) es))) < 2 ^ 32
    → Elements ReadsEntry (map canonical_entry (map (kept_entry document) es)) (flat_map entry_der (map canonical_entry (map (kept_entry document) es)))
entries_read document [] kept ids fits = refl
entries_read document (e ∷ es) kept ids fits =
    let first : List ℕ = entry_der (canonical_entry (kept_entry document e)) in
    let more : List ℕ = flat_map entry_der (map canonical_entry (map (kept_entry document) es)) in
    record {
      front = first;
      rest = more;
      is = refl;
      reads = entry_reads document e kept.0.placed ids.0 (front_fits first more fits);
      next = entries_read document es kept.1 ids.1 (rest_fits first more fits);
    }

bundles_read : (bs : List Bundle) → AllByRecursion HasCanonicalDomain bs → length (flat_map bundle_der (map canonical_bundle bs)) < 2 ^ 32
    → Elements ReadsBundle (map canonical_bundle bs) (flat_map bundle_der (map canonical_bundle bs))
bundles_read [] h fits = refl
bundles_read (b ∷ bs) h fits =
    let first : List ℕ = bundle_der (canonical_bundle b) in
    let more : List ℕ = flat_map bundle_der (map canonical_bundle bs) in
    record {
      front = first;
      rest = more;
      is = refl;
      reads = bundle_reads b (domain_utf8 b.trust_domain h.0) (front_fits first more fits);
      next = bundles_read bs h.1 (rest_fits first more fits);
    }

reason_reads : (reason : Option (List ℕ)) → IfSome reason IsReasonText → length (reason_der reason) < 2 ^ 32 → ReadsReason reason (reason_der reason)
reason_reads None h fits = refl
reason_reads (Some text) h fits = record { content = text; has = (refl, h); is = refl; fits = fits }

canonical_reads : (document : List ℕ) (es : List KeptEntry) (bundles : List Bundle) (reason : Option (List ℕ)) → AreKept document es
    → AllByRecursion HasCanonicalId (map (kept_entry document) es) → AllByRecursion HasCanonicalDomain bundles → IfSome reason IsReasonText
    → length (update_der (record { entries = map (kept_entry document) es; bundles = bundles; reason = reason })) < 2 ^ 32
    → ReadsUpdate (update_der (record { entries = map (kept_entry document) es; bundles = bundles; reason = reason }))
    (canonical (record { entries = map (kept_entry document) es; bundles = bundles; reason = reason }))
canonical_reads document kept bundles reason are_kept ids domains is_reason fits =
    let es : List ℕ = flat_map entry_der (map canonical_entry (map (kept_entry document) kept)) in
    let bs : List ℕ = flat_map bundle_der (map canonical_bundle bundles) in
    let first : List ℕ = encode 48 es in
    let second : List ℕ = encode 48 bs in
    let field : List ℕ = reason_der reason in
    let content = content_fits 48 (first ++ (second ++ field)) fits in
    let front = front_fits first (second ++ field) content in
    let behind = rest_fits first (second ++ field) content in
    let listed = front_fits second field behind in
    record {
      content = first ++ (second ++ field);
      is = refl;
      fits = fits;
      has = record {
        front = first;
        rest = second ++ field;
        is = refl;
        reads = record { content = es; has = entries_read document kept are_kept ids (content_fits 48 es front); is = refl; fits = front };
        next = record {
          front = second;
          rest = field;
          is = refl;
          reads = record { content = bs; has = bundles_read bundles domains (content_fits 48 bs listed); is = refl; fits = listed };
          next = reason_reads reason is_reason (rest_fits second field behind);
        };
      };
    }

-- the document that is kept is read as what the update writes
pub kept_reads : (document : List ℕ) (at : Place) (es : List KeptEntry) (bs : List BundleParts) (set : Bundles) (r : Option Place)
    → IsKeptUpdate document at es bs set r → ReadsUpdate document (canonical (kept_update document at es bs r))
kept_reads document at es bs set r kept =
    let u : UpdateParts = kept_update document at es bs r in
    let fits = subst (λ (x : List ℕ). length x < 2 ^ 32) kept.document_is kept.small in
    subst (λ (x : List ℕ). ReadsUpdate x (canonical u)) (sym kept.document_is)
    (canonical_reads (part document at) es u.bundles u.reason kept.entries kept.lawful.ids kept.lawful.domains kept.lawful.reason fits)

-- one document is that of one update
pub one_document : (a b : UpdateParts) (first second : List ℕ) → first ≡ update_der a → second ≡ update_der b → ReadsUpdate first (canonical a)
    → ReadsUpdate second (canonical b) → verdict (canonical a) ≡ Ok a → verdict (canonical b) ≡ Ok b → update_der a ≡ update_der b → a ≡ b
one_document a b first second x y r s v w same =
    let bytes : first ≡ second = x ∙ same ∙ sym y in
    let written = update_one.one second (canonical a) (canonical b) (subst (λ (d : List ℕ). ReadsUpdate d (canonical a)) bytes r) s in
    let answer : Result UpdateParts UpdateError = Ok a in
    let judged : answer ≡ Ok b = sym v ∙ ap verdict written ∙ w in
    cc
