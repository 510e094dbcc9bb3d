-- The rules of a lawful update, in their order: the answer is the update, or the first rule that it breaks. Numbers count from 0.
use Rattle.std.specs.Prelude.{◌≡◌, ◌⊎◌, ℕ, ◌+◌, nat_eq, Bool, true, List, [], ◌∷◌, Option, Some, None, Result, Ok, Err, if◌then◌else◌}
use Rattle.std.specs.Cmp.Lexicographic.{pointwise}
use Rattle.std.specs.List.{list_any}
use Rattle.der_small.specs.Bits.{PlainBits}
use Rattle.spiffe_id.specs.Rules.{map_ok, then_ok}
use Rattle.spiffe_id.specs.SpiffeId.{Id, id_of}
use Rattle.spiffe_id.specs.TrustDomain.{trust_domain_of}
use Rattle.spiffe_bundle.specs.KeySet.{key_set_of}
use Rattle.spki.specs.PlainPublicKey.{PlainPublicKey}
use Rattle.pkcs8.specs.PlainPrivateKey.{PlainPrivateKey}
use Rattle.update_document.specs.Written.{WrittenEntry, WrittenBundle, WrittenUpdate}
use Rattle.identity_update.specs.Parts.{Entry, Bundle, UpdateParts}
use Rattle.spki.specs.Same.{same_algorithm, same_bits}
use Rattle.identity_update.specs.declared.error.UpdateError.{UpdateError}
use Rattle.identity_update.specs.declared.error.UpdateError.TheVariants.{MissingRequiredField, WithdrawalWithEntries, Subject, AlgorithmMismatch}
use Rattle.identity_update.specs.declared.error.UpdateError.TheVariants.{PublicKeyMismatch, Domain, Authorities, MissingBundle, OutOfMemory}

-- the same answer, with its refusal seen by `f`
abbrev pub map_refusal : {A E F : Type 0} → (E → F) → Result A E → Result A F
map_refusal f (Ok a) = Ok a
map_refusal f (Err e) = Err (f e)

-- either entries or a reason
abbrev pub purpose_check : {E : Type 0} → List E → Option (List ℕ) → Result (Unit {0}) UpdateError
purpose_check [] None = Err MissingRequiredField
purpose_check [] (Some reason) = Ok tt
purpose_check (e ∷ es) None = Ok tt
purpose_check (e ∷ es) (Some reason) = Err WithdrawalWithEntries

-- a public key that a private key holds is this one
abbrev pub holds_no_other : Option PlainBits → PlainBits → Bool
holds_no_other None key = true
holds_no_other (Some held) key = same_bits held key

-- the keys of the entry with this number have one algorithm, and a public key in the private one is the public one
abbrev pub keys_check : ℕ → PlainPrivateKey → PlainPublicKey → Result (Unit {0}) UpdateError
keys_check n private_key public_key =
    if same_algorithm private_key.algorithm public_key.algorithm
    then (if holds_no_other private_key.public_key public_key.key then Ok tt else Err (PublicKeyMismatch n))
    else Err (AlgorithmMismatch n)

abbrev pub entry_of : WrittenEntry → Id → Entry
entry_of e id = record { id = id; private_key = e.private_key; public_key = e.public_key }

-- the entry with this number: its text is a SPIFFE ID, and its keys are one pair
abbrev pub entry_check : ℕ → WrittenEntry → Result Entry UpdateError
entry_check n e = then_ok (map_refusal (Subject n) (id_of e.text)) (λ id. map_ok (λ _. entry_of e id) (keys_check n e.private_key e.public_key))

-- the entries from this number on
abbrev pub entries_check : ℕ → List WrittenEntry → Result (List Entry) UpdateError
entries_check n [] = Ok []
entries_check n (e ∷ es) = then_ok (entry_check n e) (λ first. map_ok (λ more. first ∷ more) (entries_check (n + 1) es))

-- the bundle with this number: its text is a trust domain, and its bytes are a key set
abbrev pub bundle_check : ℕ → WrittenBundle → Result Bundle UpdateError
bundle_check n b =
    then_ok (map_refusal (Domain n) (trust_domain_of b.text))
    (λ domain. map_ok (λ _. record { trust_domain = domain; jwks = b.jwks }) (map_refusal (Authorities n) (key_set_of b.jwks)))

-- the bundles from this number on, those that a later one replaces too
abbrev pub bundles_check : ℕ → List WrittenBundle → Result (List Bundle) UpdateError
bundles_check n [] = Ok []
bundles_check n (b ∷ bs) = then_ok (bundle_check n b) (λ first. map_ok (λ more. first ∷ more) (bundles_check (n + 1) bs))

-- whether a bundle is of the trust domain
abbrev pub has_bundle : List ℕ → List Bundle → Bool
has_bundle domain bundles = list_any (λ b. pointwise nat_eq b.trust_domain domain) bundles

-- the entries from this number on are of trust domains with a bundle
abbrev pub members_check : ℕ → List Bundle → List Entry → Result (Unit {0}) UpdateError
members_check n bundles [] = Ok tt
members_check n bundles (e ∷ es) = if has_bundle e.id.trust_domain bundles then members_check (n + 1) bundles es else Err (MissingBundle n)

-- the update that is written, or the first rule that it breaks
unfoldable pub verdict : WrittenUpdate → Result UpdateParts UpdateError
verdict u =
    then_ok (purpose_check u.entries u.reason)
    (λ _. then_ok (entries_check 0 u.entries)
    (λ entries. then_ok (bundles_check 0 u.bundles)
    (λ bundles. map_ok (λ _. record { entries = entries; bundles = bundles; reason = u.reason }) (members_check 0 bundles entries))))

-- the error is the rule that `expected` names, or want of memory, which can come before a rule
abbrev pub IsRefusal : {T : Type 0} → Result T UpdateError → UpdateError → Type 0
IsRefusal expected e = (expected ≡ Err e) ⊎ (e ≡ OutOfMemory)
