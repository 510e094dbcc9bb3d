-- What a derived comparison of a number and of bytes answers.
use Rattle.std.proofs.Common.{◌≡◌, ◌↔◌, ℕ, ◌<◌, ◌^◌, List, length, Option, Some, true, refl, ap, ◌∙◌, ◌&&◌}
use Rattle.std.proofs.lemmas.Bool.Decides.{Decides-and, Decides-eqb}
use Rattle.std.specs.Cmp.{Some-then}
use Rattle.std.specs.Cmp.Lexicographic.{bytes_decides, lists_agrees, pointwise, slice_cmp, slice_partial_cmp}
use Rattle.std.specs.Ordering.{nat_cmp, ordering_then, partial_ordering_then}
use Rattle.std.specs.declared.cmp.Ordering.{Ordering}
use Rattle.std.specs.Prelude.{nat_eq}
use Rattle.der_core.specs.Der.{encode}
use Rattle.der_core.specs.ValueLaws.{encode_same}

-- Two numbers and two lists of bytes are the same exactly where they are equal in turn.
pub pair_decides : (n m : ℕ) (a b : List ℕ) → ((nat_eq n m && pointwise nat_eq a b) ≡ true) ↔ ((n ≡ m) × (a ≡ b))
pair_decides n m a b = Decides-and _ _ (Decides-eqb n m) (bytes_decides a b)

-- Tags and contents are the same exactly where their encodings are.
pub encodings_decide : (tag tag' : ℕ) (a b : List ℕ) → length a < 2 ^ 32 → length b < 2 ^ 32 →
    ((nat_eq tag tag' && pointwise nat_eq a b) ≡ true) ↔ (encode tag a ≡ encode tag' b)
encodings_decide tag tag' a b fits fits' =
    let parts = pair_decides tag tag' a b in
    let with_tag : ℕ → List ℕ = λ t. encode t a in
    let with_content : List ℕ → List ℕ = λ s. encode tag' s in
    (λ same. ap with_tag (parts.0 same).0 ∙ ap with_content (parts.0 same).1, λ e. parts.1 (encode_same tag tag' a b fits fits' e))

-- The partial order of bytes is their order.
pub bytes_partial : (a b : List ℕ) → slice_partial_cmp (λ x y. Some (nat_cmp x y)) a b ≡ Some (slice_cmp nat_cmp a b)
bytes_partial a b = lists_agrees (λ x y. refl) a b

-- The partial order of a number and then of bytes is their order.
pub pair_partial : (n m : ℕ) (a b : List ℕ) →
    partial_ordering_then (Some (nat_cmp n m)) (slice_partial_cmp (λ x y. Some (nat_cmp x y)) a b) ≡ Some (ordering_then (nat_cmp n m) (slice_cmp nat_cmp a b))
pair_partial n m a b =
    let first : Option Ordering → Option Ordering = λ p. partial_ordering_then (Some (nat_cmp n m)) p in
    ap first (bytes_partial a b) ∙ Some-then (nat_cmp n m) (slice_cmp nat_cmp a b)
