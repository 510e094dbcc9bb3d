-- From the rules in turn to the verdict.
use Rattle.std.proofs.Common.{◌≡◌, ℕ, ◌<◌, ◌^◌, List, [], ◌∷◌, length, map, option_map, Option, Some, None, IfSome, Result, Ok, Err, IfOk, refl, sym, ap}
use Rattle.std.proofs.Common.{subst, ◌∙◌, arith}
use Rattle.std.specs.Prelude.{string_bytes}
use Rattle.spiffe_id.specs.Rules.{map_ok, then_ok}
use Rattle.spiffe_bundle.specs.JwtBundleSet.{Bundles}
use Rattle.update_document.specs.Document.{IsReasonText}
use Rattle.update_document.specs.Spelling.{document_der}
use Rattle.update_document.specs.Written.{WrittenUpdate}
use Rattle.identity_update.specs.Bundle.{plain_bundle}
use Rattle.identity_update.specs.BundleMap.{HasTheDomains, bundle_map}
use Rattle.identity_update.specs.Canonical.{update_der}
use Rattle.identity_update.specs.KeptEntries.{AreKeptEntries, entries_of}
use Rattle.identity_update.specs.Lawful.{IsLawful}
use Rattle.identity_update.specs.LawfulParts.{AreLawfulParts, update_of}
use Rattle.identity_update.specs.Parts.{Bundle, Entry, UpdateParts}
use Rattle.identity_update.specs.Verdict.{bundles_check, entries_check, members_check, purpose_check, verdict}
use Rattle.identity_update.specs.declared.assembly.LawfulParts.{LawfulParts}
use Rattle.identity_update.specs.declared.error.UpdateError.{UpdateError}
use Rattle.identity_update.proofs.BundleLaws.{map_has_domains}
use Rattle.identity_update.proofs.VerdictLaws.{canonical_fits, lawful_update}

pub set_has_domains : (set : Bundles) (bundles : List Bundle) → set ≡ bundle_map bundles → HasTheDomains set bundles
set_has_domains set bundles is = subst (λ (s : Bundles). HasTheDomains s bundles) (sym is) (map_has_domains bundles)

abbrev made : WrittenUpdate → List Entry → List Bundle → UpdateParts
made w es bs = record { entries = es; bundles = bs; reason = w.reason }

judged : (w : WrittenUpdate) (es : List Entry) (bs : List Bundle) (r : Result (Unit {0}) UpdateError) → purpose_check w.entries w.reason ≡ Ok tt
    → entries_check 0 w.entries ≡ Ok es → bundles_check 0 w.bundles ≡ Ok bs → members_check 0 bs es ≡ r → verdict w ≡ map_ok (λ _. made w es bs) r
unfolding verdict
judged w es bs r purpose entries bundles members =
    let last : List Entry → List Bundle → Result UpdateParts UpdateError = λ es bs. map_ok (λ _. made w es bs) (members_check 0 bs es) in
    ap (λ (x : Result (Unit {0}) UpdateError). then_ok x (λ _. then_ok (entries_check 0 w.entries) (λ es. then_ok (bundles_check 0 w.bundles) (last es))))
    purpose
    ∙ ap (λ (x : Result (List Entry) UpdateError). then_ok x (λ es. then_ok (bundles_check 0 w.bundles) (last es))) entries
    ∙ ap (λ (x : Result (List Bundle) UpdateError). then_ok x (last es)) bundles
    ∙ ap (λ (x : Result (Unit {0}) UpdateError). map_ok (λ _. made w es bs) x) members

pub judged_lawful : (w : WrittenUpdate) (es : List Entry) (bs : List Bundle) → purpose_check w.entries w.reason ≡ Ok tt → entries_check 0 w.entries ≡ Ok es
    → bundles_check 0 w.bundles ≡ Ok bs → members_check 0 bs es ≡ Ok tt → verdict w ≡ Ok (record { entries = es; bundles = bs; reason = w.reason })
judged_lawful w es bs purpose entries bundles members = judged w es bs (Ok tt) purpose entries bundles members

pub judged_refused : (w : WrittenUpdate) (es : List Entry) (bs : List Bundle) (e : UpdateError) → purpose_check w.entries w.reason ≡ Ok tt
    → entries_check 0 w.entries ≡ Ok es → bundles_check 0 w.bundles ≡ Ok bs → members_check 0 bs es ≡ Err e → verdict w ≡ Err e
judged_refused w es bs e purpose entries bundles members = judged w es bs (Err e) purpose entries bundles members

pub value_is : {X E : Type 0} (r : Result X UpdateError) (expected : Result X E) (made : X) → IfOk r (λ u. u ≡ made) → expected ≡ Ok made
    → IfOk r (λ u. expected ≡ Ok u)
value_is (Ok u) expected made is e = cc
value_is (Err x) expected made is e = tt

-- the purpose of entries, however these are seen
pub purpose_map : {A B : Type 0} (f : A → B) (es : List A) (reason : Option (List ℕ)) → purpose_check (map f es) reason ≡ purpose_check es reason
purpose_map f [] None = refl
purpose_map f [] (Some reason) = refl
purpose_map f (e ∷ es) None = refl
purpose_map f (e ∷ es) (Some reason) = refl

-- the rules of a document hold of the parts that were made of it
pub judged_parts : (w : WrittenUpdate) (p : LawfulParts) → purpose_check w.entries w.reason ≡ Ok tt → entries_check 0 w.entries ≡ Ok (entries_of p.entries)
    → bundles_check 0 w.bundles ≡ Ok (map plain_bundle p.bundles.parts.items)
    → members_check 0 (map plain_bundle p.bundles.parts.items) (entries_of p.entries) ≡ Ok tt → option_map string_bytes p.reason ≡ w.reason
    → verdict w ≡ Ok (update_of p)
judged_parts w p purpose entries bundles members reason =
    let of : Option (List ℕ) → Result UpdateParts UpdateError =
    λ r. Ok (record { entries = entries_of p.entries; bundles = map plain_bundle p.bundles.parts.items; reason = r }) in
    judged_lawful w (entries_of p.entries) (map plain_bundle p.bundles.parts.items) purpose entries bundles members ∙ ap of (sym reason)

pub are_lawful_parts : (w : WrittenUpdate) (p : LawfulParts) → verdict w ≡ Ok (update_of p) → IfSome w.reason IsReasonText
    → length (document_der w) < 2 ^ 32 → AreKeptEntries p.entries → p.bundles.set ≡ bundle_map (map plain_bundle p.bundles.parts.items) → AreLawfulParts p
are_lawful_parts w p is reason small kept set =
    let shorter = canonical_fits w (update_of p) is in
    record {
      entries = kept;
      set = set;
      lawful = lawful_update w (update_of p) is reason;
      fits = omega arith;
    }

-- the update of parts that were given
pub update_is : (p : LawfulParts) (u : UpdateParts) → entries_of p.entries ≡ u.entries → map plain_bundle p.bundles.parts.items ≡ u.bundles
    → option_map string_bytes p.reason ≡ u.reason → update_of p ≡ u
update_is p u entries bundles reason =
    let with_entries : List Entry → UpdateParts = λ x. record
    { entries = x; bundles = map plain_bundle p.bundles.parts.items; reason = option_map string_bytes p.reason } in
    let with_bundles : List Bundle → UpdateParts = λ x. record { entries = u.entries; bundles = x; reason = option_map string_bytes p.reason } in
    let with_reason : Option (List ℕ) → UpdateParts = λ x. record { entries = u.entries; bundles = u.bundles; reason = x } in
    ap with_entries entries ∙ ap with_bundles bundles ∙ ap with_reason reason

pub given_parts : (p : LawfulParts) (u : UpdateParts) → update_of p ≡ u → IsLawful u → length (update_der u) < 2 ^ 32 → AreKeptEntries p.entries
    → p.bundles.set ≡ bundle_map (map plain_bundle p.bundles.parts.items) → AreLawfulParts p
given_parts p u is lawful fits kept set = record {
  entries = kept;
  set = set;
  lawful = subst IsLawful (sym is) lawful;
  fits = subst (λ (v : UpdateParts). length (update_der v) < 2 ^ 32) (sym is) fits;
}
