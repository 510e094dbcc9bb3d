-- The rules of parts, tried in turn.
use Rattle.std.proofs.Common.{◌≡◌, ℕ, ◌+◌, ◌<◌, ◌≤◌, ◌^◌, nat_lt, Bool, true, false, List, [], ◌∷◌, ◌++◌, length, map, take, drop, get_or, Option, Some, None}
use Rattle.std.proofs.Common.{IfSome, Result, Ok, Err, IsOk, inl, inr, if◌then◌else◌, sym, ap, subst, ◌∙◌, arith}
use Rattle.std.proofs.lemmas.Bool.Decides.{nat_tests}
use Rattle.std.proofs.lemmas.List.{drop_more, map-append, take_more}
use Rattle.std.specs.List.{AllByRecursion}
use Rattle.der_core.specs.declared.error.Error.TheVariants.{Overlength}
use Rattle.spiffe_bundle.specs.JwtBundle.{Bundle as KeysOfDomain}
use Rattle.spiffe_bundle.specs.JwtBundleSet.{Bundles, with_bundle}
use Rattle.spiffe_bundle.specs.KeySet.{Authorities as KeySet, key_set_of}
use Rattle.spiffe_id.specs.Rules.{map_ok, then_ok}
use Rattle.update_document.specs.Document.{IsReasonText}
use Rattle.identity_update.specs.Bundle.{plain_bundle}
use Rattle.identity_update.specs.BundleMap.{bundle_map, keys_of_bundle}
use Rattle.identity_update.specs.Canonical.{update_der}
use Rattle.identity_update.specs.Checked.{checked_entry}
use Rattle.identity_update.specs.EntryParts.{plain_entry}
use Rattle.identity_update.specs.Lawful.{HasCanonicalDomain, HasCanonicalId, HasOneKey, HasOnePurpose, IsLawful}
use Rattle.identity_update.specs.Parts.{Bundle, Entry, UpdateParts}
use Rattle.identity_update.specs.PartsVerdict.{fits_check, key_sets_check, pairs_check, parts_verdict}
use Rattle.identity_update.specs.Verdict.{IsRefusal, keys_check, map_refusal, members_check, purpose_check}
use Rattle.identity_update.specs.declared.error.UpdateError.{UpdateError}
use Rattle.identity_update.specs.declared.error.UpdateError.TheVariants.{Authorities, Document}
use Rattle.identity_update.specs.declared.bundle.BundleParts.{BundleParts}
use Rattle.identity_update.specs.declared.entry.CheckedEntry.{CheckedEntry}
use Rattle.identity_update.specs.declared.entry_parts.EntryParts.{EntryParts}
use Rattle.identity_update.proofs.BundleLaws.{map_push}
use Rattle.identity_update.proofs.Inverses.{if_inverse, refusal_inverse, then_inverse}
use Rattle.identity_update.proofs.VerdictLaws.{are_members, keys_are_one, read_is_ok}

-- each rule holds of the parts
pub record PartsHold (u : UpdateParts) : Type 0 where
  pub fits : fits_check u ≡ Ok tt
  pub purpose : purpose_check u.entries u.reason ≡ Ok tt
  pub pairs : pairs_check 0 u.entries ≡ Ok tt
  pub key_sets : key_sets_check 0 u.bundles ≡ Ok tt

-- the last rule decides where the others hold
pub parts_judged : (u : UpdateParts) (r : Result (Unit {0}) UpdateError) → PartsHold u → members_check 0 u.bundles u.entries ≡ r
    → parts_verdict u ≡ map_ok (λ _. u) r
unfolding parts_verdict
parts_judged u r h members =
    let last : Result UpdateParts UpdateError = map_ok (λ _. u) (members_check 0 u.bundles u.entries) in
    ap (λ (x : Result (Unit {0}) UpdateError). then_ok x (λ _. then_ok (purpose_check u.entries u.reason)
    (λ _. then_ok (pairs_check 0 u.entries) (λ _. then_ok (key_sets_check 0 u.bundles) (λ _. last))))) h.fits
    ∙ ap (λ (x : Result (Unit {0}) UpdateError). then_ok x (λ _. then_ok (pairs_check 0 u.entries) (λ _. then_ok (key_sets_check 0 u.bundles) (λ _. last))))
    h.purpose
    ∙ ap (λ (x : Result (Unit {0}) UpdateError). then_ok x (λ _. then_ok (key_sets_check 0 u.bundles) (λ _. last))) h.pairs
    ∙ ap (λ (x : Result (Unit {0}) UpdateError). then_ok x (λ _. last)) h.key_sets
    ∙ ap (λ (x : Result (Unit {0}) UpdateError). map_ok (λ _. u) x) members

pub parts_fit : (u : UpdateParts) → fits_check u ≡ Ok tt → length (update_der u) < 2 ^ 32
parts_fit u e =
    let test = (if_inverse (nat_lt (length (update_der u)) (2 ^ 32)) (Ok tt) (Document Overlength) tt e).test in
    grind (arith, nat_tests)

one_purpose : (es : List Entry) (reason : Option (List ℕ)) → purpose_check es reason ≡ Ok tt → HasOnePurpose es reason
one_purpose [] None e = cc
one_purpose [] (Some reason) e = tt
one_purpose (x ∷ es) None e = tt
one_purpose (x ∷ es) (Some reason) e = cc

one_keys : (n : ℕ) (es : List Entry) → pairs_check n es ≡ Ok tt → AllByRecursion HasOneKey es
one_keys n [] e = tt
one_keys n (x ∷ es) e =
    let first = then_inverse (keys_check n x.private_key x.public_key) (λ _. pairs_check (n + 1) es) tt e in
    (keys_are_one n x first.is, one_keys (n + 1) es first.gives)

are_key_sets : (n : ℕ) (bs : List Bundle) → key_sets_check n bs ≡ Ok tt → AllByRecursion (λ b. IsOk (key_set_of b.jwks)) bs
are_key_sets n [] e = tt
are_key_sets n (b ∷ bs) e =
    let first = then_inverse (map_refusal (Authorities n) (key_set_of b.jwks)) (λ _. key_sets_check (n + 1) bs) tt e in
    (read_is_ok b.jwks first.value (refusal_inverse (Authorities n) (key_set_of b.jwks) first.value first.is), are_key_sets (n + 1) bs first.gives)

pub parts_lawful : (u : UpdateParts) → PartsHold u → members_check 0 u.bundles u.entries ≡ Ok tt → AllByRecursion HasCanonicalId u.entries
    → AllByRecursion HasCanonicalDomain u.bundles → IfSome u.reason IsReasonText → IsLawful u
parts_lawful u h members ids domains reason = record {
  purpose = one_purpose u.entries u.reason h.purpose;
  reason = reason;
  ids = ids;
  keys = one_keys 0 u.entries h.pairs;
  domains = domains;
  key_sets = are_key_sets 0 u.bundles h.key_sets;
  members = are_members 0 u.bundles u.entries members;
}

-- one more part
all_push : {A : Type 0} (P : A → Type 0) (xs : List A) (x : A) → AllByRecursion P xs → P x → AllByRecursion P (xs ++ x ∷ [])
all_push P [] x h p = (p, tt)
all_push P (y ∷ xs) x h p = (h.0, all_push P xs x h.1 p)

taken_more : {A B : Type 0} (f : A → B) (n : ℕ) (xs : List A) (item : A) → n < length xs → item ≡ get_or xs n item
    → map f (take (n + 1) xs) ≡ map f (take n xs) ++ f item ∷ []
taken_more f n xs item lt is =
    ap (map f) (take_more xs n item lt ∙ ap (λ x. take n xs ++ x ∷ []) (sym is)) ∙ map-append f (take n xs) (item ∷ [])

pub all_more : {A B : Type 0} (f : A → B) (P : B → Type 0) (n : ℕ) (xs : List A) (item : A) → n < length xs → item ≡ get_or xs n item
    → AllByRecursion P (map f (take n xs)) → P (f item) → AllByRecursion P (map f (take (n + 1) xs))
all_more {B = B} f P n xs item lt is h p = subst (λ (x : List B). AllByRecursion P x) (sym (taken_more f n xs item lt is))
    (all_push P (map f (take n xs)) (f item) h p)

pub borrowed_more : (n : ℕ) (xs : List EntryParts) (item : EntryParts) (old new : List CheckedEntry) (borrowed : CheckedEntry) → n < length xs
    → item ≡ get_or xs n item → checked_entry borrowed ≡ plain_entry item → new ≡ old ++ borrowed ∷ [] → map checked_entry old ≡ map plain_entry (take n xs)
    → map checked_entry new ≡ map plain_entry (take (n + 1) xs)
borrowed_more n xs item old new borrowed lt is same pushed so =
    ap (map checked_entry) pushed
    ∙ map-append checked_entry old (borrowed ∷ [])
    ∙ ap (λ (x : List Entry). x ++ checked_entry borrowed ∷ []) so
    ∙ ap (λ (x : Entry). map plain_entry (take n xs) ++ x ∷ []) same
    ∙ sym (taken_more plain_entry n xs item lt is)

pub set_taken : (n : ℕ) (xs : List BundleParts) (item : BundleParts) (old new : Bundles) (keys : KeysOfDomain) → n < length xs → item ≡ get_or xs n item
    → old ≡ bundle_map (map plain_bundle (take n xs)) → new ≡ with_bundle old keys → keys ≡ keys_of_bundle (plain_bundle item)
    → new ≡ bundle_map (map plain_bundle (take (n + 1) xs))
set_taken n xs item old new keys lt is so added named =
    added
    ∙ ap (λ (k : KeysOfDomain). with_bundle old k) named
    ∙ ap (λ (s : Bundles). with_bundle s (keys_of_bundle (plain_bundle item))) so
    ∙ sym (map_push (map plain_bundle (take n xs)) (plain_bundle item))
    ∙ ap bundle_map (sym (taken_more plain_bundle n xs item lt is))

key_sets_here : (n : ℕ) (xs : List BundleParts) (item : BundleParts) → n < length xs → item ≡ get_or xs n item
    → key_sets_check n (map plain_bundle (drop n xs)) ≡ then_ok (map_refusal (Authorities n) (key_set_of item.jwks.items))
    (λ _. key_sets_check (n + 1) (map plain_bundle (drop (n + 1) xs)))
key_sets_here n xs item lt is =
    let at : drop n xs ≡ item ∷ drop (n + 1) xs = drop_more xs n item lt ∙ ap (λ x. x ∷ drop (n + 1) xs) (sym is) in
    ap (λ (x : List BundleParts). key_sets_check n (map plain_bundle x)) at

pub key_sets_more : (n : ℕ) (xs : List BundleParts) (item : BundleParts) (keys : KeySet) (all : Result (Unit {0}) UpdateError) → n < length xs
    → item ≡ get_or xs n item → map_refusal (Authorities n) (key_set_of item.jwks.items) ≡ Ok keys → key_sets_check n (map plain_bundle (drop n xs)) ≡ all
    → key_sets_check (n + 1) (map plain_bundle (drop (n + 1) xs)) ≡ all
key_sets_more n xs item keys all lt is ok so =
    let next : Result (Unit {0}) UpdateError = key_sets_check (n + 1) (map plain_bundle (drop (n + 1) xs)) in
    sym (ap (λ (r : Result KeySet UpdateError). then_ok r (λ _. next)) ok) ∙ sym (key_sets_here n xs item lt is) ∙ so

pub key_sets_refused : (n : ℕ) (xs : List BundleParts) (item : BundleParts) (all : Result (Unit {0}) UpdateError) (e : UpdateError) → n < length xs
    → item ≡ get_or xs n item → IsRefusal (map_refusal (Authorities n) (key_set_of item.jwks.items)) e
    → key_sets_check n (map plain_bundle (drop n xs)) ≡ all → IsRefusal all e
key_sets_refused n xs item all e lt is (inl broken) so =
    let next : Result (Unit {0}) UpdateError = key_sets_check (n + 1) (map plain_bundle (drop (n + 1) xs)) in
    inl (sym so ∙ key_sets_here n xs item lt is ∙ ap (λ (r : Result KeySet UpdateError). then_ok r (λ _. next)) broken)
key_sets_refused n xs item all e lt is (inr memory) so = inr memory

-- the test of the length
pub does_fit : (u : UpdateParts) → length (update_der u) < 2 ^ 32 → fits_check u ≡ Ok tt
does_fit u h =
    let test : nat_lt (length (update_der u)) (2 ^ 32) ≡ true = grind (arith, nat_tests) in
    ap (λ (t : Bool). if t then Ok tt else Err (Document Overlength)) test

pub does_not_fit : (u : UpdateParts) → 2 ^ 32 ≤ length (update_der u) → fits_check u ≡ Err (Document Overlength)
does_not_fit u h =
    let test : nat_lt (length (update_der u)) (2 ^ 32) ≡ false = grind (arith, nat_tests) in
    ap (λ (t : Bool). if t then Ok tt else Err (Document Overlength)) test
