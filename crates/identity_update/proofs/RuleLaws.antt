-- What the rules refuse for.
use Rattle.std.proofs.Common.{◌≡◌, ℕ, ◌+◌, Bool, true, false, List, [], ◌∷◌, Option, Some, None, Result, Ok, Err, IfErr, if◌then◌else◌}
use Rattle.spiffe_id.specs.Rules.{map_ok, then_ok}
use Rattle.spiffe_id.specs.SpiffeId.{id_of}
use Rattle.spiffe_id.specs.TrustDomain.{trust_domain_of}
use Rattle.spiffe_bundle.specs.KeySet.{key_set_of}
use Rattle.spki.specs.PlainPublicKey.{PlainPublicKey}
use Rattle.pkcs8.specs.PlainPrivateKey.{PlainPrivateKey}
use Rattle.update_document.specs.Written.{WrittenBundle, WrittenEntry, WrittenUpdate}
use Rattle.identity_update.specs.Parts.{Bundle, Entry}
use Rattle.spki.specs.Same.{same_algorithm}
use Rattle.identity_update.specs.Verdict.{bundle_check, bundles_check, entries_check, entry_check, has_bundle, holds_no_other, keys_check, map_refusal}
use Rattle.identity_update.specs.Verdict.{members_check, purpose_check, verdict}
use Rattle.identity_update.specs.declared.error.UpdateError.{UpdateError}
use Rattle.identity_update.specs.declared.error.UpdateError.TheVariants.{AlgorithmMismatch, Authorities, Document, Domain, MissingBundle, OutOfMemory}
use Rattle.identity_update.specs.declared.error.UpdateError.TheVariants.{PublicKeyMismatch, RevisionsUsedUp, Subject, Text}

-- a rule of the update itself, and not of its text, of its document or of a source
abbrev pub IsRule : UpdateError → Type 0
IsRule RevisionsUsedUp = ⊥
IsRule (Text cause) = ⊥
IsRule (Document cause) = ⊥
IsRule OutOfMemory = ⊥
IsRule _ = Unit {0}

then_rules : {A B : Type 0} (r : Result A UpdateError) (next : A → Result B UpdateError) → IfErr r IsRule → ((a : A) → IfErr (next a) IsRule)
    → IfErr (then_ok r next) IsRule
then_rules (Ok a) next h k = k a
then_rules (Err e) next h k = h

map_rules : {A B : Type 0} (r : Result A UpdateError) (f : A → B) → IfErr r IsRule → IfErr (map_ok f r) IsRule
map_rules (Ok a) f h = tt
map_rules (Err e) f h = h

seen_rules : {A E : Type 0} (f : E → UpdateError) (r : Result A E) → ((e : E) → IsRule (f e)) → IfErr (map_refusal f r) IsRule
seen_rules f (Ok a) h = tt
seen_rules f (Err e) h = h e

if_rules : {A : Type 0} (b : Bool) (r : Result A UpdateError) (e : UpdateError) → IfErr r IsRule → IsRule e → IfErr (if b then r else Err e) IsRule
if_rules true r e h rule = h
if_rules false r e h rule = rule

purpose_rules : {E : Type 0} (es : List E) (reason : Option (List ℕ)) → IfErr (purpose_check es reason) IsRule
purpose_rules [] None = tt
purpose_rules [] (Some reason) = tt
purpose_rules (e ∷ es) None = tt
purpose_rules (e ∷ es) (Some reason) = tt

keys_rules : (n : ℕ) (private : PlainPrivateKey) (public : PlainPublicKey) → IfErr (keys_check n private public) IsRule
keys_rules n private public =
    if_rules (same_algorithm private.algorithm public.algorithm) _ (AlgorithmMismatch n)
    (if_rules (holds_no_other private.public_key public.key) (Ok tt) (PublicKeyMismatch n) tt tt) tt

entry_rules : (n : ℕ) (e : WrittenEntry) → IfErr (entry_check n e) IsRule
entry_rules n e = then_rules _ _ (seen_rules (Subject n) (id_of e.text) (λ cause. tt)) (λ id. map_rules _ _ (keys_rules n e.private_key e.public_key))

entries_rules : (n : ℕ) (es : List WrittenEntry) → IfErr (entries_check n es) IsRule
entries_rules n [] = tt
entries_rules n (e ∷ es) = then_rules _ _ (entry_rules n e) (λ first. map_rules _ _ (entries_rules (n + 1) es))

bundle_rules : (n : ℕ) (b : WrittenBundle) → IfErr (bundle_check n b) IsRule
bundle_rules n b = then_rules _ _ (seen_rules (Domain n) (trust_domain_of b.text) (λ cause. tt))
    (λ domain. map_rules _ _ (seen_rules (Authorities n) (key_set_of b.jwks) (λ cause. tt)))

bundles_rules : (n : ℕ) (bs : List WrittenBundle) → IfErr (bundles_check n bs) IsRule
bundles_rules n [] = tt
bundles_rules n (b ∷ bs) = then_rules _ _ (bundle_rules n b) (λ first. map_rules _ _ (bundles_rules (n + 1) bs))

members_rules : (n : ℕ) (bundles : List Bundle) (es : List Entry) → IfErr (members_check n bundles es) IsRule
members_rules n bundles [] = tt
members_rules n bundles (e ∷ es) = if_rules (has_bundle e.id.trust_domain bundles) _ (MissingBundle n) (members_rules (n + 1) bundles es) tt

all_rules : (w : WrittenUpdate) → IfErr (verdict w) IsRule
unfolding verdict
all_rules w =
    then_rules _ _ (purpose_rules w.entries w.reason)
    (λ _. then_rules _ _ (entries_rules 0 w.entries)
    (λ entries. then_rules _ _ (bundles_rules 0 w.bundles)
    (λ bundles. map_rules _ _ (members_rules 0 bundles entries))))

refused_rule : {A : Type 0} (r : Result A UpdateError) (e : UpdateError) → IfErr r IsRule → r ≡ Err e → IsRule e
refused_rule r e h is = rw is at h

-- a refusal of the rules is a rule
pub verdict_rules : (w : WrittenUpdate) (e : UpdateError) → verdict w ≡ Err e → IsRule e
verdict_rules w e is = refused_rule (verdict w) e (all_rules w) is
