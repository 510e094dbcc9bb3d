-- The rules find a lawful update in what its own document writes.
use Rattle.std.proofs.Common.{◌≡◌, ℕ, ◌+◌, Bool, true, List, [], ◌∷◌, map, Option, Some, None, IfSome, Result, Ok, Err, IsOk, refl, ap, ◌∙◌, if◌then◌else◌}
use Rattle.std.specs.List.{AllByRecursion}
use Rattle.der_small.specs.Bits.{PlainBits}
use Rattle.spiffe_bundle.specs.KeySet.{key_set_of}
use Rattle.spiffe_id.specs.Rules.{map_ok, then_ok}
use Rattle.spiffe_id.specs.SpiffeId.{Id}
use Rattle.spki.specs.Same.{algorithms_decide, bits_decide}
use Rattle.identity_update.specs.Canonical.{canonical, canonical_bundle, canonical_entry}
use Rattle.identity_update.specs.Lawful.{HasCanonicalDomain, HasCanonicalId, HasOneKey, HasOnePurpose, IsLawful}
use Rattle.identity_update.specs.Parts.{Bundle, Entry, UpdateParts}
use Rattle.identity_update.specs.Verdict.{bundle_check, bundles_check, entries_check, entry_check, entry_of, has_bundle, holds_no_other, keys_check}
use Rattle.identity_update.specs.Verdict.{map_refusal, members_check, purpose_check, verdict}
use Rattle.identity_update.specs.declared.error.UpdateError.{UpdateError}
use Rattle.identity_update.specs.declared.error.UpdateError.TheVariants.{AlgorithmMismatch, Authorities, Domain, MissingBundle, PublicKeyMismatch, Subject}
use Rattle.identity_update.proofs.JudgeLaws.{judged_lawful}

purpose_holds : (es : List Entry) (reason : Option (List ℕ)) → HasOnePurpose es reason → purpose_check (map canonical_entry es) reason ≡ Ok tt
purpose_holds [] None h = absurd h
purpose_holds [] (Some reason) h = refl
purpose_holds (e ∷ es) None h = refl
purpose_holds (e ∷ es) (Some reason) h = absurd h

held_holds : (held : Option PlainBits) (key : PlainBits) → IfSome held (λ k. k ≡ key) → holds_no_other held key ≡ true
held_holds None key h = refl
held_holds (Some k) key h = (bits_decide k key).1 h

pub keys_hold : (n : ℕ) (e : Entry) → HasOneKey e → keys_check n e.private_key e.public_key ≡ Ok tt
keys_hold n e h =
    let answer : Result (Unit {0}) UpdateError = if holds_no_other e.private_key.public_key e.public_key.key then Ok tt else Err (PublicKeyMismatch n) in
    ap (λ (t : Bool). if t then answer else Err (AlgorithmMismatch n)) ((algorithms_decide e.private_key.algorithm e.public_key.algorithm).1 h.algorithm)
    ∙ ap (λ (t : Bool). if t then Ok tt else Err (PublicKeyMismatch n)) (held_holds e.private_key.public_key e.public_key.key h.held)

entry_holds : (n : ℕ) (e : Entry) → HasCanonicalId e → HasOneKey e → entry_check n (canonical_entry e) ≡ Ok e
entry_holds n e id key =
    let keys : Id → Result Entry UpdateError = λ i. map_ok (λ _. entry_of (canonical_entry e) i) (keys_check n e.private_key e.public_key) in
    ap (λ r. then_ok (map_refusal (Subject n) r) keys) id
    ∙ ap (λ (r : Result (Unit {0}) UpdateError). map_ok (λ _. entry_of (canonical_entry e) e.id) r) (keys_hold n e key)

entries_hold : (n : ℕ) (es : List Entry) → AllByRecursion HasCanonicalId es → AllByRecursion HasOneKey es → entries_check n (map canonical_entry es) ≡ Ok es
entries_hold n [] ids keys = refl
entries_hold n (e ∷ es) ids keys =
    let more : Entry → Result (List Entry) UpdateError = λ first. map_ok (λ more. first ∷ more) (entries_check (n + 1) (map canonical_entry es)) in
    ap (λ (r : Result Entry UpdateError). then_ok r more) (entry_holds n e ids.0 keys.0)
    ∙ ap (λ (r : Result (List Entry) UpdateError). map_ok (λ more. e ∷ more) r) (entries_hold (n + 1) es ids.1 keys.1)

-- a rule that a value passes, whatever it gives
passes : {A B E F : Type 0} (f : E → F) (r : Result A E) (b : B) → IsOk r → map_ok (λ _. b) (map_refusal f r) ≡ Ok b
passes f (Ok a) b h = refl
passes f (Err e) b h = cc

bundle_holds : (n : ℕ) (b : Bundle) → HasCanonicalDomain b → IsOk (key_set_of b.jwks) → bundle_check n (canonical_bundle b) ≡ Ok b
bundle_holds n b domain keys =
    let set : List ℕ → Result Bundle UpdateError = λ d. map_ok (λ _. record { trust_domain = d; jwks = b.jwks })
    (map_refusal (Authorities n) (key_set_of b.jwks)) in
    ap (λ r. then_ok (map_refusal (Domain n) r) set) domain ∙ passes (Authorities n) (key_set_of b.jwks) b keys

bundles_hold : (n : ℕ) (bs : List Bundle) → AllByRecursion HasCanonicalDomain bs → AllByRecursion (λ b. IsOk (key_set_of b.jwks)) bs
    → bundles_check n (map canonical_bundle bs) ≡ Ok bs
bundles_hold n [] domains keys = refl
bundles_hold n (b ∷ bs) domains keys =
    let more : Bundle → Result (List Bundle) UpdateError = λ first. map_ok (λ more. first ∷ more) (bundles_check (n + 1) (map canonical_bundle bs)) in
    ap (λ (r : Result Bundle UpdateError). then_ok r more) (bundle_holds n b domains.0 keys.0)
    ∙ ap (λ (r : Result (List Bundle) UpdateError). map_ok (λ more. b ∷ more) r) (bundles_hold (n + 1) bs domains.1 keys.1)

members_hold : (n : ℕ) (bundles : List Bundle) (es : List Entry) → AllByRecursion (λ e. has_bundle e.id.trust_domain bundles ≡ true) es
    → members_check n bundles es ≡ Ok tt
members_hold n bundles [] h = refl
members_hold n bundles (e ∷ es) h = ap (λ (t : Bool). if t then members_check (n + 1) bundles es else Err (MissingBundle n)) h.0
    ∙ members_hold (n + 1) bundles es h.1

pub lawful_verdict : (u : UpdateParts) → IsLawful u → verdict (canonical u) ≡ Ok u
lawful_verdict u h =
    judged_lawful (canonical u) u.entries u.bundles (purpose_holds u.entries u.reason h.purpose) (entries_hold 0 u.entries h.ids h.keys)
    (bundles_hold 0 u.bundles h.domains h.key_sets) (members_hold 0 u.bundles u.entries h.members)
