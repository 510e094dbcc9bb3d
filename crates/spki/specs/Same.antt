-- Whether two keys, or two of their parts, are the same as plain data. Each test has one law: it is true exactly where they are equal.
use Rattle.std.proofs.Common.{◌≡◌, ℕ, List, Bool, Option, Some, None, option_map, refl, ap, ◌∙◌, ◌&&◌}
use Rattle.std.proofs.lemmas.Bool.Decides.{Decides-and, Decides-eqb, Decides-like}
use Rattle.std.proofs.lemmas.Option.{same_Some}
use Rattle.std.specs.Bool.{Decides}
use Rattle.std.specs.Cmp.Lexicographic.{bytes_decides, pointwise}
use Rattle.std.specs.Option.{option_eq}
use Rattle.std.specs.Prelude.{◌==◌, nat_eq}
use Rattle.der_core.specs.Any.{PlainAny}
use Rattle.der_small.specs.Bits.{PlainBits}
use Rattle.spki.specs.PlainAlgorithm.{PlainAlgorithm}
use Rattle.spki.specs.PlainPublicKey.{PlainPublicKey}

abbrev pub same_any : PlainAny → PlainAny → Bool
same_any a b = (a.tag == b.tag) && pointwise nat_eq a.content b.content

abbrev pub same_bits : PlainBits → PlainBits → Bool
same_bits a b = (a.unused_bits == b.unused_bits) && pointwise nat_eq a.octets b.octets

-- Absent parameters and NULL differ.
abbrev pub same_algorithm : PlainAlgorithm → PlainAlgorithm → Bool
same_algorithm a b = pointwise nat_eq a.oid b.oid && option_eq same_any a.parameters b.parameters

abbrev pub same_public_key : PlainPublicKey → PlainPublicKey → Bool
same_public_key a b = same_algorithm a.algorithm b.algorithm && same_bits a.key b.key

-- Optional parts are the same where both are absent, or both are there and the same.
pub options_decide : {X : Type 0} (same : X → X → Bool) → ((x y : X) → Decides (same x y) (x ≡ y)) → (p q : Option X) → Decides (option_eq same p q) (p ≡ q)
options_decide same decides None None = (λ e. refl, λ e. refl)
options_decide same decides None (Some y) = (λ e. cc, λ e. cc)
options_decide same decides (Some x) None = (λ e. cc, λ e. cc)
options_decide {X = X} same decides (Some x) (Some y) = let some : X → Option X = λ z. Some z in
    (λ e. ap some ((decides x y).0 e), λ e. (decides x y).1 (same_Some x y e))

-- Optional parts that are seen in another way.
pub options_seen : {X Y : Type 0} (same : Y → Y → Bool) (seen : X → Y) (p q : Option X) →
    option_eq (λ x y. same (seen x) (seen y)) p q ≡ option_eq same (option_map seen p) (option_map seen q)
options_seen same seen None None = refl
options_seen same seen None (Some y) = refl
options_seen same seen (Some x) None = refl
options_seen same seen (Some x) (Some y) = refl

pub any_decides : (a b : PlainAny) → Decides (same_any a b) (a ≡ b)
any_decides a b =
    let with_tag : ℕ → PlainAny = λ x. record { tag = x; content = a.content } in
    let with_content : List ℕ → PlainAny = λ x. record { tag = b.tag; content = x } in
    Decides-like _ (λ e. ap with_tag e.0 ∙ ap with_content e.1) (λ e. (ap (λ (x : PlainAny). x.tag) e, ap (λ (x : PlainAny). x.content) e))
    (Decides-and _ _ (Decides-eqb a.tag b.tag) (bytes_decides a.content b.content))

pub bits_decide : (a b : PlainBits) → Decides (same_bits a b) (a ≡ b)
bits_decide a b =
    let with_unused : ℕ → PlainBits = λ x. record { unused_bits = x; octets = a.octets } in
    let with_octets : List ℕ → PlainBits = λ x. record { unused_bits = b.unused_bits; octets = x } in
    Decides-like _ (λ e. ap with_unused e.0 ∙ ap with_octets e.1) (λ e. (ap (λ (x : PlainBits). x.unused_bits) e, ap (λ (x : PlainBits). x.octets) e))
    (Decides-and _ _ (Decides-eqb a.unused_bits b.unused_bits) (bytes_decides a.octets b.octets))

pub algorithms_decide : (a b : PlainAlgorithm) → Decides (same_algorithm a b) (a ≡ b)
algorithms_decide a b =
    let with_oid : List ℕ → PlainAlgorithm = λ x. record { oid = x; parameters = a.parameters } in
    let with_parameters : Option PlainAny → PlainAlgorithm = λ x. record { oid = b.oid; parameters = x } in
    Decides-like _ (λ e. ap with_oid e.0 ∙ ap with_parameters e.1) (λ e. (ap (λ (x : PlainAlgorithm). x.oid) e, ap (λ (x : PlainAlgorithm). x.parameters) e))
    (Decides-and _ _ (bytes_decides a.oid b.oid) (options_decide same_any any_decides a.parameters b.parameters))

pub public_keys_decide : (a b : PlainPublicKey) → Decides (same_public_key a b) (a ≡ b)
public_keys_decide a b =
    let with_algorithm : PlainAlgorithm → PlainPublicKey = λ x. record { algorithm = x; key = a.key } in
    let with_key : PlainBits → PlainPublicKey = λ x. record { algorithm = b.algorithm; key = x } in
    Decides-like _ (λ e. ap with_algorithm e.0 ∙ ap with_key e.1) (λ e. (ap (λ (x : PlainPublicKey). x.algorithm) e, ap (λ (x : PlainPublicKey). x.key) e))
    (Decides-and _ _ (algorithms_decide a.algorithm b.algorithm) (bits_decide a.key b.key))
