-- Eight groups in lanes of bytes.
use Rattle.std.proofs.Common.{◌≡◌, ℕ, ◌+◌, ◌*◌, ◌/◌, ◌%◌, ◌<◌, true, ltb, List, [], ◌∷◌, ◌++◌, length, arith, refl, ap, ◌∙◌, ℤ, pos, map, get_or, of_z}
use Rattle.std.proofs.lemmas.Bool.{and_parts, ltb-true}
use Rattle.std.proofs.lemmas.Simd.{pick_l_left, pick_l_whole}
use Rattle.std.specs.Simd.Lanes.{all_below}
use Rattle.std.specs.List.{range_with_len}
use lib.Lanes.{pick_l}
use mir.Syntax.{w16}
use Rattle.base64_alphabet.specs.Group.{End, High, Low, bytes_of_places, digits_of_number, number}
use Rattle.base64_alphabet.specs.Lanes.{bytes_of_digits}

-- the lanes in order
pub each_lane : (xs : List ℕ) → length xs ≡ 32 → pick_l 0 (xs ++ xs) (range_with_len 0 32) ≡ xs
each_lane xs e = pick_l_left 0 xs xs 32 (range_with_len 0 32) e tt ∙ pick_l_whole 0 xs 32 e

-- the bytes of groups, as lanes compute them
abbrev pub high_lanes : List ℕ → List ℕ
high_lanes (p ∷ q ∷ r ∷ s ∷ rest) = (p * 4 % 256 + q / 16) % 256 ∷ (q * 16 % 256 + r / 4) % 256 ∷ (r * 64 % 256 + s / 1) % 256 ∷ high_lanes rest
high_lanes _ = []

abbrev pub low_lanes : List ℕ → List ℕ
low_lanes (p ∷ q ∷ r ∷ s ∷ rest) = (q * 64 % 256 + p / 1) % 256 ∷ (r * 16 % 256 + q / 4) % 256 ∷ (s * 4 % 256 + r / 16) % 256 ∷ low_lanes rest
low_lanes _ = []

record Digits (p q r s : ℕ) (rest : List ℕ) : Type 0 where
  first : p < 64
  second : q < 64
  third : r < 64
  fourth : s < 64
  others : all_below 64 rest ≡ true

digits : (p q r s : ℕ) (rest : List ℕ) → all_below 64 (p ∷ q ∷ r ∷ s ∷ rest) ≡ true → Digits p q r s rest
digits p q r s rest h =
    let a = and_parts (ltb p 64) (all_below 64 (q ∷ r ∷ s ∷ rest)) h in
    let b = and_parts (ltb q 64) (all_below 64 (r ∷ s ∷ rest)) a.1 in
    let c = and_parts (ltb r 64) (all_below 64 (s ∷ rest)) b.1 in
    let d = and_parts (ltb s 64) (all_below 64 rest) c.1 in
    record { first = ltb-true _ _ a.0; second = ltb-true _ _ b.0; third = ltb-true _ _ c.0; fourth = ltb-true _ _ d.0; others = d.1 }

high_group : (p q r s : ℕ) → p < 64 → q < 64 → r < 64 → s < 64
    → ((p * 4 % 256 + q / 16) % 256 ∷ (q * 16 % 256 + r / 4) % 256 ∷ (r * 64 % 256 + s / 1) % 256 ∷ []) ≡ bytes_of_places High p q r s
high_group p q r s lp lq lr ls =
    let a : (p * 4 % 256 + q / 16) % 256 ≡ (p * 262144 + q * 4096 + r * 64 + s) / 65536 = omega arith in
    let b : (q * 16 % 256 + r / 4) % 256 ≡ (p * 262144 + q * 4096 + r * 64 + s) / 256 % 256 = omega arith in
    let c : (r * 64 % 256 + s / 1) % 256 ≡ (p * 262144 + q * 4096 + r * 64 + s) % 256 = omega arith in
    (λ i. a i ∷ b i ∷ c i ∷ [])

low_group : (p q r s : ℕ) → p < 64 → q < 64 → r < 64 → s < 64
    → ((q * 64 % 256 + p / 1) % 256 ∷ (r * 16 % 256 + q / 4) % 256 ∷ (s * 4 % 256 + r / 16) % 256 ∷ []) ≡ bytes_of_places Low p q r s
low_group p q r s lp lq lr ls =
    let a : (q * 64 % 256 + p / 1) % 256 ≡ (s * 262144 + r * 4096 + q * 64 + p) % 256 = omega arith in
    let b : (r * 16 % 256 + q / 4) % 256 ≡ (s * 262144 + r * 4096 + q * 64 + p) / 256 % 256 = omega arith in
    let c : (s * 4 % 256 + r / 16) % 256 ≡ (s * 262144 + r * 4096 + q * 64 + p) / 65536 = omega arith in
    (λ i. a i ∷ b i ∷ c i ∷ [])

pub high_lanes_are : (xs : List ℕ) → all_below 64 xs ≡ true → high_lanes xs ≡ bytes_of_digits High xs
unfolding bytes_of_digits
high_lanes_are (p ∷ q ∷ r ∷ s ∷ rest) h =
    let d = digits p q r s rest h in
    (λ i. high_group p q r s d.first d.second d.third d.fourth i ++ high_lanes_are rest d.others i)
high_lanes_are [] h = refl
high_lanes_are (p ∷ []) h = refl
high_lanes_are (p ∷ q ∷ []) h = refl
high_lanes_are (p ∷ q ∷ r ∷ []) h = refl

pub low_lanes_are : (xs : List ℕ) → all_below 64 xs ≡ true → low_lanes xs ≡ bytes_of_digits Low xs
unfolding bytes_of_digits
low_lanes_are (p ∷ q ∷ r ∷ s ∷ rest) h =
    let d = digits p q r s rest h in
    (λ i. low_group p q r s d.first d.second d.third d.fourth i ++ low_lanes_are rest d.others i)
low_lanes_are [] h = refl
low_lanes_are (p ∷ []) h = refl
low_lanes_are (p ∷ q ∷ []) h = refl
low_lanes_are (p ∷ q ∷ r ∷ []) h = refl

-- the end is told by the first digit of the group 1, 0, 0
pub is_low : (end : End) (r : List ℤ) → r ≡ map pos (digits_of_number end (number end 1 0 0)) → of_z w16 (get_or r 0 (pos 0)) ≡ 1 → end ≡ Low
is_low High r e h = absurd (let z : of_z w16 (get_or r 0 (pos 0)) ≡ 0 = ap (λ l. of_z w16 (get_or l 0 (pos 0))) e in omega arith)
is_low Low r e h = refl

pub is_high : (end : End) (r : List ℤ) → r ≡ map pos (digits_of_number end (number end 1 0 0)) → (of_z w16 (get_or r 0 (pos 0)) ≡ 1 → ⊥) → end ≡ High
is_high High r e h = refl
is_high Low r e h = absurd (h (ap (λ l. of_z w16 (get_or l 0 (pos 0))) e))
