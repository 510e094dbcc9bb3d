-- One more bundle.
use Rattle.std.proofs.Common.{◌≡◌, ℕ, ◌+◌, ◌<◌, ◌≤◌, ◌||◌, Bool, true, false, List, [], ◌∷◌, ◌++◌, length, drop, get_or, map, Result, Ok, refl, sym, ap, ◌∙◌}
use Rattle.std.proofs.Common.{append_assoc, append-nil, bytes_eq, length-append, arith}
use Rattle.std.specs.Prelude.{is_some}
use Rattle.std.proofs.lemmas.Grind.{fold-append}
use Rattle.std.proofs.lemmas.List.{drop_more, map-append}
use Rattle.std.proofs.lemmas.Slice.Eq.{bytes_eq-Decides}
use Rattle.der_core.specs.Der.{encode}
use Rattle.der_core.specs.Laws.{length_encode}
use Rattle.spiffe_id.specs.Rules.{map_ok, then_ok}
use Rattle.spiffe_bundle.specs.Entries.{find_entry, with_entry}
use Rattle.spiffe_bundle.specs.JwtBundleSet.{Bundles, with_bundle, with_bundles}
use Rattle.spiffe_bundle.specs.JwtBundle.{Bundle as KeysOfDomain}
use Rattle.spiffe_bundle.proofs.MapEntries.{found_same, found_other}
use Rattle.update_document.specs.Refs.{BundleRef, written_bundle}
use Rattle.update_document.specs.Spelling.{bundle_content}
use Rattle.identity_update.specs.Bundle.{plain_bundle}
use Rattle.identity_update.specs.BundleMap.{HasTheDomains, bundle_map, keys_of_bundle}
use Rattle.identity_update.specs.Canonical.{canonical_bundle}
use Rattle.identity_update.specs.Parts.{Bundle}
use Rattle.identity_update.specs.Verdict.{bundle_check, bundles_check, has_bundle}
use Rattle.identity_update.specs.declared.bundle.BundleParts.{BundleParts}
use Rattle.identity_update.specs.declared.error.UpdateError.{UpdateError}
use Rattle.identity_update.proofs.Results.{one_more}

or_false : (t : Bool) → (t || false) ≡ t
or_false true = refl
or_false false = refl

or_true : (t : Bool) → (t || true) ≡ true
or_true true = refl
or_true false = refl

or_or : (a b c : Bool) → (a || (b || c)) ≡ ((a || b) || c)
or_or true b c = refl
or_or false b c = refl

has_push : (q : List ℕ) (bs : List Bundle) (b : Bundle) → has_bundle q (bs ++ b ∷ []) ≡ (has_bundle q bs || bytes_eq b.trust_domain q)
has_push q [] b = or_false (bytes_eq b.trust_domain q)
has_push q (x ∷ bs) b = ap (λ t. bytes_eq x.trust_domain q || t) (has_push q bs b)
    ∙ or_or (bytes_eq x.trust_domain q) (has_bundle q bs) (bytes_eq b.trust_domain q)

added_at : (q domain : List ℕ) (t : Bool) (old : Bundles) (bs : List Bundle) (v : KeysOfDomain) → bytes_eq domain q ≡ t → HasTheDomains old bs
    → is_some (find_entry q (with_entry old domain v)) ≡ (has_bundle q bs || t)
added_at q domain true old bs v is has =
    let same : domain ≡ q = (bytes_eq-Decides domain q).0 is in
    rw (← same) (rw (found_same domain v old) (sym (or_true (has_bundle domain bs))))
added_at q domain false old bs v is has =
    rw (found_other q domain v old (λ e. let yes_it : bytes_eq domain q ≡ true = (bytes_eq-Decides domain q).1 (sym e) in cc))
    (has q ∙ sym (or_false (has_bundle q bs)))

added : (old : Bundles) (bs : List Bundle) (b : Bundle) → HasTheDomains old bs → HasTheDomains (with_bundle old (keys_of_bundle b)) (bs ++ b ∷ [])
added old bs b has q = added_at q b.trust_domain (bytes_eq b.trust_domain q) old bs (keys_of_bundle b) refl has ∙ sym (has_push q bs b)

domains_from : (old : Bundles) (done bs : List Bundle) → HasTheDomains old done → HasTheDomains (with_bundles old (map keys_of_bundle bs)) (done ++ bs)
domains_from old done [] has q = has q ∙ ap (has_bundle q) (sym (append-nil done))
domains_from old done (b ∷ bs) has q =
    domains_from (with_bundle old (keys_of_bundle b)) (done ++ b ∷ []) bs (added old done b has) q ∙ ap (has_bundle q) (append_assoc done (b ∷ []) bs)

-- the map of bundles has their trust domains
pub map_has_domains : (bs : List Bundle) → HasTheDomains (bundle_map bs) bs
map_has_domains bs = domains_from [] [] bs (λ q. refl)

pub map_push : (bs : List Bundle) (b : Bundle) → bundle_map (bs ++ b ∷ []) ≡ with_bundle (bundle_map bs) (keys_of_bundle b)
map_push bs b =
    ap (λ (xs : List KeysOfDomain). with_bundles [] xs) (map-append keys_of_bundle bs (b ∷ []))
    ∙ fold-append with_bundle [] (map keys_of_bundle bs) (keys_of_bundle b ∷ [])

pub set_more : (old new : Bundles) (keys : KeysOfDomain) (parts more : List BundleParts) (listed : BundleParts) → old ≡ bundle_map (map plain_bundle parts)
    → new ≡ with_bundle old keys → keys ≡ keys_of_bundle (plain_bundle listed) → more ≡ parts ++ listed ∷ [] → new ≡ bundle_map (map plain_bundle more)
set_more old new keys parts more listed so added named pushed =
    added
    ∙ ap (λ (k : KeysOfDomain). with_bundle old k) named
    ∙ ap (λ (s : Bundles). with_bundle s (keys_of_bundle (plain_bundle listed))) so
    ∙ sym (map_push (map plain_bundle parts) (plain_bundle listed))
    ∙ ap bundle_map (sym (ap (map plain_bundle) pushed ∙ map-append plain_bundle parts (listed ∷ [])))

pub checked_more : (n : ℕ) (bs : List BundleRef) (item : BundleRef) (parts new : List BundleParts) (listed : BundleParts)
    (all : Result (List Bundle) UpdateError) → n < length bs → item ≡ get_or bs n item → bundle_check n (written_bundle item) ≡ Ok (plain_bundle listed)
    → new ≡ parts ++ listed ∷ []
    → map_ok (λ more. map plain_bundle parts ++ more) (bundles_check n (map written_bundle (drop n bs))) ≡ all
    → map_ok (λ more. map plain_bundle new ++ more) (bundles_check (n + 1) (map written_bundle (drop (n + 1) bs))) ≡ all
checked_more n bs item parts new listed all lt is ok pushed so =
    let at : drop n bs ≡ item ∷ drop (n + 1) bs = drop_more bs n item lt ∙ ap (λ x. x ∷ drop (n + 1) bs) (sym is) in
    let here = ap (λ x. map_ok (λ more. map plain_bundle parts ++ more) (bundles_check n (map written_bundle x))) at in
    let read = ap (λ x. map_ok (λ more. map plain_bundle parts ++ more)
    (then_ok x (λ first. map_ok (λ more. first ∷ more) (bundles_check (n + 1) (map written_bundle (drop (n + 1) bs)))))) ok in
    one_more plain_bundle parts new listed (bundles_check (n + 1) (map written_bundle (drop (n + 1) bs))) pushed ∙ sym read ∙ sym here ∙ so

-- a key set is no longer than its bundle
pub jwks_le : (b : Bundle) → length b.jwks ≤ length (bundle_content (canonical_bundle b))
jwks_le b =
    let sum = length-append (encode 12 b.trust_domain) (encode 4 b.jwks) in
    let field = length_encode 4 b.jwks in
    omega arith
