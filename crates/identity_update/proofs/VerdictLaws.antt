-- What holds of an update that breaks no rule.
use Rattle.std.proofs.Common.{◌≡◌, ℕ, ◌+◌, ◌≤◌, true, List, [], ◌∷◌, ◌++◌, length, map, Option, Some, None, IfSome, Result, Ok, refl, sym, ap, subst}
use Rattle.std.proofs.Common.{length-append, arith}
use Rattle.std.specs.Prelude.{IsOk}
use Rattle.std.specs.List.{AllByRecursion, flat_map}
use Rattle.der_core.specs.Der.{encode}
use Rattle.der_small.specs.Bits.{PlainBits}
use Rattle.spiffe_id.specs.Rules.{map_ok, then_ok}
use Rattle.spiffe_id.specs.SpiffeId.{id_of, id_text}
use Rattle.spiffe_id.specs.TrustDomain.{trust_domain_of}
use Rattle.spiffe_bundle.specs.KeySet.{Authorities as KeySet, key_set_of}
use Rattle.spki.specs.PlainPublicKey.{PlainPublicKey, public_key_der}
use Rattle.spki.specs.Same.{algorithms_decide, bits_decide, same_algorithm}
use Rattle.pkcs8.specs.PlainPrivateKey.{PlainPrivateKey, private_key_der}
use Rattle.update_document.specs.Document.{IsReasonText}
use Rattle.update_document.specs.Spelling.{bundle_content, bundle_der, document_content, document_der, entry_content, entry_der, reason_der}
use Rattle.update_document.specs.Written.{WrittenBundle, WrittenEntry, WrittenUpdate}
use Rattle.update_document.proofs.FitsLaws.{encode_le}
use Rattle.identity_update.specs.Canonical.{canonical, canonical_bundle, canonical_entry, update_der}
use Rattle.identity_update.specs.Lawful.{HasCanonicalDomain, HasCanonicalId, HasOneKey, HasOnePurpose, IsLawful}
use Rattle.identity_update.specs.Parts.{Bundle, Entry, UpdateParts}
use Rattle.identity_update.specs.Verdict.{bundle_check, bundles_check, entries_check, entry_check, entry_of, has_bundle, holds_no_other, keys_check}
use Rattle.identity_update.specs.Verdict.{map_refusal, members_check, purpose_check, verdict}
use Rattle.identity_update.specs.declared.error.UpdateError.{UpdateError}
use Rattle.identity_update.specs.declared.error.UpdateError.TheVariants.{AlgorithmMismatch, Authorities, Domain, MissingBundle, PublicKeyMismatch, Subject}
use Rattle.identity_update.proofs.Inverses.{if_inverse, map_inverse, refusal_inverse, then_inverse}
use Rattle.identity_update.proofs.NamesAgain.{domain_again, id_again}
use Rattle.identity_update.proofs.NamesFit.{domain_fits, id_fits}

-- each rule holds
pub record Holds (w : WrittenUpdate) (u : UpdateParts) : Type 0 where
  pub purpose : purpose_check w.entries w.reason ≡ Ok tt
  pub entries : entries_check 0 w.entries ≡ Ok u.entries
  pub bundles : bundles_check 0 w.bundles ≡ Ok u.bundles
  pub members : members_check 0 u.bundles u.entries ≡ Ok tt
  pub reason : u.reason ≡ w.reason

pub rules_hold : (w : WrittenUpdate) (u : UpdateParts) → verdict w ≡ Ok u → Holds w u
unfolding verdict
rules_hold w u e =
    let made : List Entry → List Bundle → UpdateParts = λ es bs. record { entries = es; bundles = bs; reason = w.reason } in
    let judged : List Entry → List Bundle → Result UpdateParts UpdateError = λ es bs. map_ok (λ _. made es bs) (members_check 0 bs es) in
    let purpose = then_inverse (purpose_check w.entries w.reason)
    (λ _. then_ok (entries_check 0 w.entries) (λ es. then_ok (bundles_check 0 w.bundles) (judged es))) u e in
    let entries = then_inverse (entries_check 0 w.entries) (λ es. then_ok (bundles_check 0 w.bundles) (judged es)) u purpose.gives in
    let bundles = then_inverse (bundles_check 0 w.bundles) (judged entries.value) u entries.gives in
    let members = map_inverse (members_check 0 bundles.value entries.value) (λ _. made entries.value bundles.value) u bundles.gives in
    subst (Holds w) members.same (record { purpose = purpose.is; entries = entries.is; bundles = bundles.is; members = members.is; reason = refl })

-- one entry that breaks no rule of its own
pub record EntryHolds (e : WrittenEntry) (v : Entry) : Type 0 where
  id : id_of e.text ≡ Ok v.id
  private_key : v.private_key ≡ e.private_key
  public_key : v.public_key ≡ e.public_key
  n : ℕ
  keys : keys_check n v.private_key v.public_key ≡ Ok tt

entry_holds : (n : ℕ) (e : WrittenEntry) (v : Entry) → entry_check n e ≡ Ok v → EntryHolds e v
entry_holds n e v is =
    let id = then_inverse (map_refusal (Subject n) (id_of e.text)) (λ id. map_ok (λ _. entry_of e id) (keys_check n e.private_key e.public_key)) v is in
    let keys = map_inverse (keys_check n e.private_key e.public_key) (λ _. entry_of e id.value) v id.gives in
    subst (EntryHolds e) keys.same (record {
      id = refusal_inverse (Subject n) (id_of e.text) id.value id.is;
      private_key = refl;
      public_key = refl;
      n = n;
      keys = keys.is;
    })

pub record BundleHolds (b : WrittenBundle) (v : Bundle) : Type 0 where
  domain : trust_domain_of b.text ≡ Ok v.trust_domain
  jwks : v.jwks ≡ b.jwks
  keys : IsOk (key_set_of v.jwks)

pub read_is_ok : (bytes : List ℕ) (keys : KeySet) → key_set_of bytes ≡ Ok keys → IsOk (key_set_of bytes)
read_is_ok bytes keys e = rw e refl

bundle_holds : (n : ℕ) (b : WrittenBundle) (v : Bundle) → bundle_check n b ≡ Ok v → BundleHolds b v
bundle_holds n b v is =
    let domain = then_inverse (map_refusal (Domain n) (trust_domain_of b.text))
    (λ domain. map_ok (λ _. record { trust_domain = domain; jwks = b.jwks }) (map_refusal (Authorities n) (key_set_of b.jwks))) v is in
    let keys = map_inverse (map_refusal (Authorities n) (key_set_of b.jwks)) (λ _. record { trust_domain = domain.value; jwks = b.jwks }) v domain.gives in
    subst (BundleHolds b) keys.same (record {
      domain = refusal_inverse (Domain n) (trust_domain_of b.text) domain.value domain.is;
      jwks = refl;
      keys = read_is_ok b.jwks keys.value (refusal_inverse (Authorities n) (key_set_of b.jwks) keys.value keys.is);
    })

-- all of them in turn
pub data EntriesHold : List WrittenEntry → List Entry → Type 0 where
  no_entries : EntriesHold [] []
  an_entry : (e : WrittenEntry) (es : List WrittenEntry) (v : Entry) (vs : List Entry) → EntryHolds e v → EntriesHold es vs → EntriesHold (e ∷ es) (v ∷ vs)

pub entries_hold : (n : ℕ) (es : List WrittenEntry) (vs : List Entry) → entries_check n es ≡ Ok vs → EntriesHold es vs
entries_hold n [] vs is = let none : [] ≡ vs = cc in subst (EntriesHold []) none no_entries
entries_hold n (e ∷ es) vs is =
    let first = then_inverse (entry_check n e) (λ first. map_ok (λ more. first ∷ more) (entries_check (n + 1) es)) vs is in
    let more = map_inverse (entries_check (n + 1) es) (λ more. first.value ∷ more) vs first.gives in
    subst (EntriesHold (e ∷ es)) more.same (an_entry e es first.value more.value (entry_holds n e first.value first.is)
    (entries_hold (n + 1) es more.value more.is))

pub data BundlesHold : List WrittenBundle → List Bundle → Type 0 where
  no_bundles : BundlesHold [] []
  a_bundle : (b : WrittenBundle) (bs : List WrittenBundle) (v : Bundle) (vs : List Bundle) → BundleHolds b v → BundlesHold bs vs → BundlesHold (b ∷ bs) (v ∷ vs)

pub bundles_hold : (n : ℕ) (bs : List WrittenBundle) (vs : List Bundle) → bundles_check n bs ≡ Ok vs → BundlesHold bs vs
bundles_hold n [] vs is = let none : [] ≡ vs = cc in subst (BundlesHold []) none no_bundles
bundles_hold n (b ∷ bs) vs is =
    let first = then_inverse (bundle_check n b) (λ first. map_ok (λ more. first ∷ more) (bundles_check (n + 1) bs)) vs is in
    let more = map_inverse (bundles_check (n + 1) bs) (λ more. first.value ∷ more) vs first.gives in
    subst (BundlesHold (b ∷ bs)) more.same (a_bundle b bs first.value more.value (bundle_holds n b first.value first.is)
    (bundles_hold (n + 1) bs more.value more.is))

-- the canonical document is no longer than what was read
entry_fits : (e : WrittenEntry) (v : Entry) → EntryHolds e v → length (entry_der (canonical_entry v)) ≤ length (entry_der e)
entry_fits e v h =
    let text = encode_le 12 (id_text v.id) e.text (id_fits e.text v.id h.id) in
    let private = ap (λ (k : PlainPrivateKey). length (private_key_der k)) h.private_key in
    let public = ap (λ (k : PlainPublicKey). length (public_key_der k)) h.public_key in
    let keys = length-append (private_key_der v.private_key) (public_key_der v.public_key) in
    let keys' = length-append (private_key_der e.private_key) (public_key_der e.public_key) in
    let sum = length-append (encode 12 (id_text v.id)) (private_key_der v.private_key ++ public_key_der v.public_key) in
    let sum' = length-append (encode 12 e.text) (private_key_der e.private_key ++ public_key_der e.public_key) in
    encode_le 48 (entry_content (canonical_entry v)) (entry_content e) (omega arith)

entries_fit : (es : List WrittenEntry) (vs : List Entry) → EntriesHold es vs
    → length (flat_map entry_der (map canonical_entry vs)) ≤ length (flat_map entry_der es)
entries_fit [] [] no_entries = omega arith
entries_fit [] (v ∷ vs) h = elim h [ ]
entries_fit (e ∷ es) [] h = elim h [ ]
entries_fit (e ∷ es) (v ∷ vs) (an_entry _ _ _ _ h more) =
    let first = entry_fits e v h in
    let rest = entries_fit es vs more in
    let sum = length-append (entry_der (canonical_entry v)) (flat_map entry_der (map canonical_entry vs)) in
    let sum' = length-append (entry_der e) (flat_map entry_der es) in
    omega arith

pub entry_fits_in : (n : ℕ) (e : WrittenEntry) (v : Entry) → entry_check n e ≡ Ok v → length (entry_der (canonical_entry v)) ≤ length (entry_der e)
entry_fits_in n e v is = entry_fits e v (entry_holds n e v is)

bundle_fits : (b : WrittenBundle) (v : Bundle) → BundleHolds b v → length (bundle_der (canonical_bundle v)) ≤ length (bundle_der b)
bundle_fits b v h =
    let text = encode_le 12 v.trust_domain b.text (domain_fits b.text v.trust_domain h.domain) in
    let jwks = ap (λ (x : List ℕ). length (encode 4 x)) h.jwks in
    let sum = length-append (encode 12 v.trust_domain) (encode 4 v.jwks) in
    let sum' = length-append (encode 12 b.text) (encode 4 b.jwks) in
    encode_le 48 (bundle_content (canonical_bundle v)) (bundle_content b) (omega arith)

bundles_fit : (bs : List WrittenBundle) (vs : List Bundle) → BundlesHold bs vs
    → length (flat_map bundle_der (map canonical_bundle vs)) ≤ length (flat_map bundle_der bs)
bundles_fit [] [] no_bundles = omega arith
bundles_fit [] (v ∷ vs) h = elim h [ ]
bundles_fit (b ∷ bs) [] h = elim h [ ]
bundles_fit (b ∷ bs) (v ∷ vs) (a_bundle _ _ _ _ h more) =
    let first = bundle_fits b v h in
    let rest = bundles_fit bs vs more in
    let sum = length-append (bundle_der (canonical_bundle v)) (flat_map bundle_der (map canonical_bundle vs)) in
    let sum' = length-append (bundle_der b) (flat_map bundle_der bs) in
    omega arith

pub canonical_fits : (w : WrittenUpdate) (u : UpdateParts) → verdict w ≡ Ok u → length (update_der u) ≤ length (document_der w)
canonical_fits w u is =
    let h = rules_hold w u is in
    let entries : List ℕ = flat_map entry_der (map canonical_entry u.entries) in
    let bundles : List ℕ = flat_map bundle_der (map canonical_bundle u.bundles) in
    let es = encode_le 48 entries (flat_map entry_der w.entries) (entries_fit w.entries u.entries (entries_hold 0 w.entries u.entries h.entries)) in
    let bs = encode_le 48 bundles (flat_map bundle_der w.bundles) (bundles_fit w.bundles u.bundles (bundles_hold 0 w.bundles u.bundles h.bundles)) in
    let reason = ap (λ (r : Option (List ℕ)). length (reason_der r)) h.reason in
    let behind = length-append (encode 48 bundles) (reason_der u.reason) in
    let behind' = length-append (encode 48 (flat_map bundle_der w.bundles)) (reason_der w.reason) in
    let sum = length-append (encode 48 entries) (encode 48 bundles ++ reason_der u.reason) in
    let sum' = length-append (encode 48 (flat_map entry_der w.entries)) (encode 48 (flat_map bundle_der w.bundles) ++ reason_der w.reason) in
    encode_le 48 (document_content (canonical u)) (document_content w) (omega arith)

-- what the rules say of the update
one_purpose : (es : List WrittenEntry) (vs : List Entry) (reason : Option (List ℕ)) → EntriesHold es vs → purpose_check es reason ≡ Ok tt
    → HasOnePurpose vs reason
one_purpose [] (v ∷ vs) reason h is = elim h [ ]
one_purpose (e ∷ es) [] reason h is = elim h [ ]
one_purpose [] [] None no_entries is = cc
one_purpose [] [] (Some reason) no_entries is = tt
one_purpose (e ∷ es) (v ∷ vs) None (an_entry _ _ _ _ h more) is = tt
one_purpose (e ∷ es) (v ∷ vs) (Some reason) (an_entry _ _ _ _ h more) is = cc

held_same : (held : Option PlainBits) (key : PlainBits) → holds_no_other held key ≡ true → IfSome held (λ k. k ≡ key)
held_same None key e = tt
held_same (Some k) key e = (bits_decide k key).0 e

pub keys_are_one : (n : ℕ) (v : Entry) → keys_check n v.private_key v.public_key ≡ Ok tt → HasOneKey v
keys_are_one n v is =
    let algorithm = if_inverse (same_algorithm v.private_key.algorithm v.public_key.algorithm) _ (AlgorithmMismatch n) tt is in
    let held = if_inverse (holds_no_other v.private_key.public_key v.public_key.key) _ (PublicKeyMismatch n) tt algorithm.gives in
    record {
      algorithm = (algorithms_decide v.private_key.algorithm v.public_key.algorithm).0 algorithm.test;
      held = held_same v.private_key.public_key v.public_key.key held.test;
    }

pub entry_has_one_key : (n : ℕ) (e : WrittenEntry) (v : Entry) → entry_check n e ≡ Ok v → HasOneKey v
entry_has_one_key n e v is = let h = entry_holds n e v is in keys_are_one h.n v h.keys

one_keys : (es : List WrittenEntry) (vs : List Entry) → EntriesHold es vs → AllByRecursion HasOneKey vs
one_keys [] [] no_entries = tt
one_keys [] (v ∷ vs) h = elim h [ ]
one_keys (e ∷ es) [] h = elim h [ ]
one_keys (e ∷ es) (v ∷ vs) (an_entry _ _ _ _ h more) = (keys_are_one h.n v h.keys, one_keys es vs more)

are_key_sets : (bs : List WrittenBundle) (vs : List Bundle) → BundlesHold bs vs → AllByRecursion (λ b. IsOk (key_set_of b.jwks)) vs
are_key_sets [] [] no_bundles = tt
are_key_sets [] (v ∷ vs) h = elim h [ ]
are_key_sets (b ∷ bs) [] h = elim h [ ]
are_key_sets (b ∷ bs) (v ∷ vs) (a_bundle _ _ _ _ h more) = (h.keys, are_key_sets bs vs more)

are_canonical_ids : (es : List WrittenEntry) (vs : List Entry) → EntriesHold es vs → AllByRecursion HasCanonicalId vs
are_canonical_ids [] [] no_entries = tt
are_canonical_ids [] (v ∷ vs) h = elim h [ ]
are_canonical_ids (e ∷ es) [] h = elim h [ ]
are_canonical_ids (e ∷ es) (v ∷ vs) (an_entry _ _ _ _ h more) = (id_again e.text v.id h.id, are_canonical_ids es vs more)

are_canonical_domains : (bs : List WrittenBundle) (vs : List Bundle) → BundlesHold bs vs → AllByRecursion HasCanonicalDomain vs
are_canonical_domains [] [] no_bundles = tt
are_canonical_domains [] (v ∷ vs) h = elim h [ ]
are_canonical_domains (b ∷ bs) [] h = elim h [ ]
are_canonical_domains (b ∷ bs) (v ∷ vs) (a_bundle _ _ _ _ h more) = (domain_again b.text v.trust_domain h.domain, are_canonical_domains bs vs more)

pub are_members : (n : ℕ) (bundles : List Bundle) (es : List Entry) → members_check n bundles es ≡ Ok tt
    → AllByRecursion (λ e. has_bundle e.id.trust_domain bundles ≡ true) es
are_members n bundles [] is = tt
are_members n bundles (e ∷ es) is =
    let first = if_inverse (has_bundle e.id.trust_domain bundles) (members_check (n + 1) bundles es) (MissingBundle n) tt is in
    (first.test, are_members (n + 1) bundles es first.gives)

pub lawful_update : (w : WrittenUpdate) (u : UpdateParts) → verdict w ≡ Ok u → IfSome w.reason IsReasonText → IsLawful u
lawful_update w u is reason =
    let h = rules_hold w u is in
    let entries = entries_hold 0 w.entries u.entries h.entries in
    let bundles = bundles_hold 0 w.bundles u.bundles h.bundles in
    let purpose = one_purpose w.entries u.entries w.reason entries h.purpose in
    record {
      purpose = subst (HasOnePurpose u.entries) (sym h.reason) purpose;
      reason = subst (λ (r : Option (List ℕ)). IfSome r IsReasonText) (sym h.reason) reason;
      ids = are_canonical_ids w.entries u.entries entries;
      keys = one_keys w.entries u.entries entries;
      domains = are_canonical_domains w.bundles u.bundles bundles;
      key_sets = are_key_sets w.bundles u.bundles bundles;
      members = are_members 0 u.bundles u.entries h.members;
    }
