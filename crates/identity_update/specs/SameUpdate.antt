-- Whether two updates are the same: their entries, their bundles and their reasons are. The test is true exactly where they are equal.
use Rattle.std.proofs.Common.{◌≡◌, ℕ, List, Bool, true, false, Option, refl, sym, ap, ◌∙◌, ◌&&◌, nat_eq}
use Rattle.std.proofs.lemmas.Bool.Decides.{Decides-and, Decides-like}
use Rattle.std.specs.Bool.{Decides}
use Rattle.std.specs.Cmp.{IsEquivalence}
use Rattle.std.specs.Cmp.Lexicographic.{bytes_decides, pointwise, pointwise_decides}
use Rattle.std.specs.Option.{option_eq}
use Rattle.spiffe_id.specs.SpiffeId.{Id, id_eq}
use Rattle.spki.specs.PlainPublicKey.{PlainPublicKey}
use Rattle.spki.specs.Same.{options_decide, public_keys_decide, same_public_key}
use Rattle.pkcs8.specs.PlainPrivateKey.{PlainPrivateKey}
use Rattle.pkcs8.specs.Same.{private_keys_decide, same_private_key}
use Rattle.identity_update.specs.Parts.{Bundle, Entry, UpdateParts}

abbrev pub same_entry : Entry → Entry → Bool
same_entry a b = id_eq a.id b.id && (same_private_key a.private_key b.private_key && same_public_key a.public_key b.public_key)

abbrev pub same_bundle : Bundle → Bundle → Bool
same_bundle a b = pointwise nat_eq a.trust_domain b.trust_domain && pointwise nat_eq a.jwks b.jwks

abbrev pub same_update : UpdateParts → UpdateParts → Bool
same_update a b = pointwise same_entry a.entries b.entries && (pointwise same_bundle a.bundles b.bundles && option_eq (pointwise nat_eq) a.reason b.reason)

ids_decide : (a b : Id) → Decides (id_eq a b) (a ≡ b)
ids_decide a b =
    let with_domain : List ℕ → Id = λ x. record { trust_domain = x; path = a.path } in
    let with_path : List ℕ → Id = λ x. record { trust_domain = b.trust_domain; path = x } in
    Decides-like _ (λ e. ap with_domain e.0 ∙ ap with_path e.1) (λ e. (ap (λ (x : Id). x.trust_domain) e, ap (λ (x : Id). x.path) e))
    (Decides-and _ _ (bytes_decides a.trust_domain b.trust_domain) (bytes_decides a.path b.path))

entries_decide : (a b : Entry) → Decides (same_entry a b) (a ≡ b)
entries_decide a b =
    let with_id : Id → Entry = λ x. record { id = x; private_key = a.private_key; public_key = a.public_key } in
    let with_private : PlainPrivateKey → Entry = λ x. record { id = b.id; private_key = x; public_key = a.public_key } in
    let with_public : PlainPublicKey → Entry = λ x. record { id = b.id; private_key = b.private_key; public_key = x } in
    Decides-like _ (λ e. ap with_id e.0 ∙ ap with_private e.1.0 ∙ ap with_public e.1.1)
    (λ e. (ap (λ (x : Entry). x.id) e, (ap (λ (x : Entry). x.private_key) e, ap (λ (x : Entry). x.public_key) e)))
    (Decides-and _ _ (ids_decide a.id b.id) (Decides-and _ _ (private_keys_decide a.private_key b.private_key) (public_keys_decide a.public_key b.public_key)))

bundles_decide : (a b : Bundle) → Decides (same_bundle a b) (a ≡ b)
bundles_decide a b =
    let with_domain : List ℕ → Bundle = λ x. record { trust_domain = x; jwks = a.jwks } in
    let with_jwks : List ℕ → Bundle = λ x. record { trust_domain = b.trust_domain; jwks = x } in
    Decides-like _ (λ e. ap with_domain e.0 ∙ ap with_jwks e.1) (λ e. (ap (λ (x : Bundle). x.trust_domain) e, ap (λ (x : Bundle). x.jwks) e))
    (Decides-and _ _ (bytes_decides a.trust_domain b.trust_domain) (bytes_decides a.jwks b.jwks))

pub updates_decide : (a b : UpdateParts) → Decides (same_update a b) (a ≡ b)
updates_decide a b =
    let with_entries : List Entry → UpdateParts = λ x. record { entries = x; bundles = a.bundles; reason = a.reason } in
    let with_bundles : List Bundle → UpdateParts = λ x. record { entries = b.entries; bundles = x; reason = a.reason } in
    let with_reason : Option (List ℕ) → UpdateParts = λ x. record { entries = b.entries; bundles = b.bundles; reason = x } in
    Decides-like _ (λ e. ap with_entries e.0 ∙ ap with_bundles e.1.0 ∙ ap with_reason e.1.1)
    (λ e. (ap (λ (x : UpdateParts). x.entries) e, (ap (λ (x : UpdateParts). x.bundles) e, ap (λ (x : UpdateParts). x.reason) e)))
    (Decides-and _ _ (pointwise_decides entries_decide a.entries b.entries)
    (Decides-and _ _ (pointwise_decides bundles_decide a.bundles b.bundles) (options_decide (pointwise nat_eq) bytes_decides a.reason b.reason)))

same_test : (s t : Bool) → (s ≡ true → t ≡ true) → (t ≡ true → s ≡ true) → s ≡ t
same_test true true to from = refl
same_test true false to from = sym (to refl)
same_test false true to from = from refl
same_test false false to from = refl

pub updates_equiv : IsEquivalence same_update
updates_equiv = record {
  refl = λ x. (updates_decide x x).1 refl;
  symm = λ x y. same_test (same_update x y) (same_update y x) (λ e. (updates_decide y x).1 (sym ((updates_decide x y).0 e)))
      (λ e. (updates_decide x y).1 (sym ((updates_decide y x).0 e)));
  congr = λ x y z e. ap (λ (w : UpdateParts). same_update w z) ((updates_decide x y).0 e);
}
