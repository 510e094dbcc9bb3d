-- Contents are the same exactly where the encodings of one tag are.
use Rattle.std.proofs.Common.{◌≡◌, ◌↔◌, ℕ, ◌<◌, ◌^◌, List, ◌∷◌, length, true, ap, ◌∙◌, ◌&&◌, drop, get_or, arith}
use Rattle.std.specs.Cmp.Lexicographic.{bytes_decides, pointwise}
use Rattle.std.specs.Prelude.{nat_eq}
use Rattle.der_core.specs.Der.{encode}
use Rattle.der_core.specs.ValueLaws.{encode_same}
use Rattle.der_core.proofs.Compared.{pair_decides}
use Rattle.der_small.specs.Bits.{AreBits}

pub bytes_decide : (tag : ℕ) (a b : List ℕ) → length a < 2 ^ 32 → length b < 2 ^ 32 → (pointwise nat_eq a b ≡ true) ↔ (encode tag a ≡ encode tag b)
bytes_decide tag a b fits fits' =
    let same = bytes_decides a b in
    (λ e. ap (λ (s : List ℕ). encode tag s) (same.0 e), λ e. same.1 (encode_same tag tag a b fits fits' e).1)

pub bits_decide : (n m : ℕ) (a b : List ℕ) → AreBits n a → AreBits m b →
    ((nat_eq n m && pointwise nat_eq a b) ≡ true) ↔ (encode 3 (n ∷ a) ≡ encode 3 (m ∷ b))
bits_decide n m a b bits bits' =
    let small = bits.small in
    let small' = bits'.small in
    let fits : length (n ∷ a) < 2 ^ 32 = omega arith in
    let fits' : length (m ∷ b) < 2 ^ 32 = omega arith in
    let parts = pair_decides n m a b in
    let with_unused : ℕ → List ℕ = λ x. encode 3 (x ∷ a) in
    let with_octets : List ℕ → List ℕ = λ s. encode 3 (m ∷ s) in (
      λ same. ap with_unused (parts.0 same).0 ∙ ap with_octets (parts.0 same).1,
      λ e.
          let content = (encode_same 3 3 (n ∷ a) (m ∷ b) fits fits' e).1 in
          parts.1 (ap (λ (s : List ℕ). get_or s 0 0) content, ap (λ (s : List ℕ). drop 1 s) content),
    )
