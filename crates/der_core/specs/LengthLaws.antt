-- What is read from the spelling of a length, and what was read is that spelling.
use Rattle.std.proofs.Common.{◌≡◌, ℕ, ◌+◌, ◌*◌, ◌/◌, ◌%◌, ◌^◌, ◌<◌, ◌≤◌, List, [], ◌∷◌, ◌++◌, length, get_or, Bool, true, false, cond, eqb, ltb, Some, None}
use Rattle.std.proofs.Common.{refl, ap, inl, inr, arith, add-one}
use Rattle.std.proofs.lemmas.Bool.{lt-ltb, le-ltb, ltb-true, ltb-false, eqb-true, eqb-false, ne_eqb, cases_lt}
use Rattle.std.proofs.lemmas.Option.{same_Some}
use Rattle.der_core.specs.Der.{length_bytes}
use Rattle.der_core.specs.Header.{read_length, one_byte, two_bytes, three_bytes, four_bytes}

pub length_bytes_1 : (n : ℕ) → n < 128 → length_bytes n ≡ n ∷ []
unfolding length_bytes
length_bytes_1 n s = rw (lt-ltb n 128 s) refl

pub length_bytes_2 : (n : ℕ) → 128 ≤ n → n < 256 → length_bytes n ≡ 129 ∷ n ∷ []
unfolding length_bytes
length_bytes_2 n h s = rw (le-ltb n 128 h, lt-ltb n 256 s) refl

pub length_bytes_3 : (n : ℕ) → 256 ≤ n → n < 65536 → length_bytes n ≡ 130 ∷ n / 256 ∷ n % 256 ∷ []
unfolding length_bytes
length_bytes_3 n h s =
    let h1 : 128 ≤ n = omega arith in
    rw (le-ltb n 128 h1, le-ltb n 256 h, lt-ltb n 65536 s) refl

pub length_bytes_4 : (n : ℕ) → 65536 ≤ n → n < 16777216 → length_bytes n ≡ 131 ∷ n / 65536 ∷ n / 256 % 256 ∷ n % 256 ∷ []
unfolding length_bytes
length_bytes_4 n h s =
    let h1 : 128 ≤ n = omega arith in
    let h2 : 256 ≤ n = omega arith in
    rw (le-ltb n 128 h1, le-ltb n 256 h2, le-ltb n 65536 h, lt-ltb n 16777216 s) refl

pub length_bytes_5 : (n : ℕ) → 16777216 ≤ n → length_bytes n ≡ 132 ∷ n / 16777216 ∷ n / 65536 % 256 ∷ n / 256 % 256 ∷ n % 256 ∷ []
unfolding length_bytes
length_bytes_5 n h =
    let h1 : 128 ≤ n = omega arith in
    let h2 : 256 ≤ n = omega arith in
    let h3 : 65536 ≤ n = omega arith in
    rw (le-ltb n 128 h1, le-ltb n 256 h2, le-ltb n 65536 h3, le-ltb n 16777216 h) refl

pub read_length_again : (n : ℕ) (rest : List ℕ) → n < 2 ^ 32 → read_length (length_bytes n ++ rest) ≡ Some (n, rest)
read_length_again n rest fits =
    elim (cases_lt n 128) [
      | inl s ↦ rw (length_bytes_1 n s, lt-ltb n 128 s) refl
      | inr h1 ↦ elim (cases_lt n 256) [
        | inl s ↦ rw (length_bytes_2 n h1 s, le-ltb n 128 h1) refl
        | inr h2 ↦ elim (cases_lt n 65536) [
          | inl s ↦
              let nz : n / 256 ≡ 0 → ⊥ = λ e. omega arith in
              rw (length_bytes_3 n h2 s, ne_eqb (n / 256) 0 nz) (ap (λ (k : ℕ). Some (k, rest)) (omega arith))
          | inr h3 ↦ elim (cases_lt n 16777216) [
            | inl s ↦
                let nz : n / 65536 ≡ 0 → ⊥ = λ e. omega arith in
                rw (length_bytes_4 n h3 s, ne_eqb (n / 65536) 0 nz) (ap (λ (k : ℕ). Some (k, rest)) (omega arith))
            | inr h4 ↦
                let nz : n / 16777216 ≡ 0 → ⊥ = λ e. omega arith in
                rw (length_bytes_5 n h4, ne_eqb (n / 16777216) 0 nz) (ap (λ (k : ℕ). Some (k, rest)) (omega arith))
          ]
        ]
      ]
    ]

unfoldable pub IsBytes : List ℕ → Type 0
IsBytes s = (i : ℕ) → get_or s i 0 < 256

unfoldable pub Spells : List ℕ → ℕ × List ℕ → Type 0
Spells s found = (s ≡ length_bytes found.0 ++ found.1) × (found.0 < 2 ^ 32)

test_true : {A : Type 0} (b : Bool) (x y : A) → cond b None (Some x) ≡ Some y → (b ≡ false) × (x ≡ y)
test_true true x y e = cc
test_true false x y e = (refl, cc)

found_one : (s : List ℕ) (f : ℕ × List ℕ) → IsBytes s → one_byte s ≡ Some f → Spells (129 ∷ [] ++ s) f
unfolding IsBytes Spells
found_one [] f b e = cc
found_one (a ∷ t) f b e =
    let p = test_true (ltb a 128) (a, t) f e in
    let h : 128 ≤ a = ltb-false a 128 p.0 in
    let s : a < 256 = b 0 in
    rw (← p.1, length_bytes_2 a h s) (refl, omega arith)

found_two : (s : List ℕ) (f : ℕ × List ℕ) → IsBytes s → two_bytes s ≡ Some f → Spells (130 ∷ [] ++ s) f
unfolding IsBytes Spells
found_two [] f b e = cc
found_two (a ∷ []) f b e = cc
found_two (x ∷ y ∷ t) f b e =
    let p = test_true (eqb x 0) (x * 256 + y, t) f e in
    let nz : x ≡ 0 → ⊥ = eqb-false x 0 p.0 in
    let hx : x < 256 = b 0 in
    let hy : y < 256 = b 1 in
    let low : 256 ≤ x * 256 + y = omega arith in
    let high : x * 256 + y < 65536 = omega arith in
    let dx : (x * 256 + y) / 256 ≡ x = omega arith in
    let dy : (x * 256 + y) % 256 ≡ y = omega arith in
    rw (← p.1, length_bytes_3 (x * 256 + y) low high, dx, dy) (refl, omega arith)

found_three : (s : List ℕ) (f : ℕ × List ℕ) → IsBytes s → three_bytes s ≡ Some f → Spells (131 ∷ [] ++ s) f
unfolding IsBytes Spells
found_three [] f b e = cc
found_three (a ∷ []) f b e = cc
found_three (a ∷ c ∷ []) f b e = cc
found_three (x ∷ y ∷ z ∷ t) f b e =
    let n : ℕ = x * 65536 + y * 256 + z in
    let p = test_true (eqb x 0) (n, t) f e in
    let nz : x ≡ 0 → ⊥ = eqb-false x 0 p.0 in
    let hx : x < 256 = b 0 in
    let hy : y < 256 = b 1 in
    let hz : z < 256 = b 2 in
    let low : 65536 ≤ n = omega arith in
    let high : n < 16777216 = omega arith in
    let dx : n / 65536 ≡ x = omega arith in
    let dy : n / 256 % 256 ≡ y = omega arith in
    let dz : n % 256 ≡ z = omega arith in
    rw (← p.1, length_bytes_4 n low high, dx, dy, dz) (refl, omega arith)

found_four : (s : List ℕ) (f : ℕ × List ℕ) → IsBytes s → four_bytes s ≡ Some f → Spells (132 ∷ [] ++ s) f
unfolding IsBytes Spells
found_four [] f b e = cc
found_four (a ∷ []) f b e = cc
found_four (a ∷ c ∷ []) f b e = cc
found_four (a ∷ c ∷ d ∷ []) f b e = cc
found_four (x ∷ y ∷ z ∷ w ∷ t) f b e =
    let n : ℕ = x * 16777216 + y * 65536 + z * 256 + w in
    let p = test_true (eqb x 0) (n, t) f e in
    let nz : x ≡ 0 → ⊥ = eqb-false x 0 p.0 in
    let hx : x < 256 = b 0 in
    let hy : y < 256 = b 1 in
    let hz : z < 256 = b 2 in
    let hw : w < 256 = b 3 in
    let low : 16777216 ≤ n = omega arith in
    let dx : n / 16777216 ≡ x = omega arith in
    let dy : n / 65536 % 256 ≡ y = omega arith in
    let dz : n / 256 % 256 ≡ z = omega arith in
    let dw : n % 256 ≡ w = omega arith in
    rw (← p.1, length_bytes_5 n low, dx, dy, dz, dw) (refl, omega arith)

pub IsBytes_tail : (a : ℕ) (s : List ℕ) → IsBytes (a ∷ s) → IsBytes s
unfolding IsBytes
IsBytes_tail a s b = λ i. rw add-one at (b (i + 1))

pub branch : {A : Type 0} {P : Type 0} (b : Bool) (x y z : A) → cond b x y ≡ z → (b ≡ true → x ≡ z → P) → (b ≡ false → y ≡ z → P) → P
branch true x y z e f g = f refl e
branch false x y z e f g = g refl e

pub read_length_found : (s : List ℕ) (f : ℕ × List ℕ) → IsBytes s → read_length s ≡ Some f → Spells s f
unfolding Spells
read_length_found [] f b e = cc
read_length_found (a ∷ s) f b e =
    let t : IsBytes s = IsBytes_tail a s b in
    branch (ltb a 128) _ _ _ e
    (λ h p. rw (← same_Some (a, s) f p, length_bytes_1 a (ltb-true a 128 h)) (refl, let g : a < 128 = ltb-true a 128 h in omega arith))
    (λ _ e. branch (eqb a 129) _ _ _ e (λ h p. rw (eqb-true a 129 h) (found_one s f t p))
    (λ _ e. branch (eqb a 130) _ _ _ e (λ h p. rw (eqb-true a 130 h) (found_two s f t p))
    (λ _ e. branch (eqb a 131) _ _ _ e (λ h p. rw (eqb-true a 131 h) (found_three s f t p))
    (λ _ e. branch (eqb a 132) _ _ _ e (λ h p. rw (eqb-true a 132 h) (found_four s f t p))
    (λ _ e. cc)))))

-- How many bytes a length takes, by its size.
width_1 : (n : ℕ) → n < 128 → length (length_bytes n) ≡ 1
width_1 n s = ap (λ (x : List ℕ). length x) (length_bytes_1 n s)

width_2 : (n : ℕ) → 128 ≤ n → n < 256 → length (length_bytes n) ≡ 2
width_2 n h s = ap (λ (x : List ℕ). length x) (length_bytes_2 n h s)

width_3 : (n : ℕ) → 256 ≤ n → n < 65536 → length (length_bytes n) ≡ 3
width_3 n h s = ap (λ (x : List ℕ). length x) (length_bytes_3 n h s)

width_4 : (n : ℕ) → 65536 ≤ n → n < 16777216 → length (length_bytes n) ≡ 4
width_4 n h s = ap (λ (x : List ℕ). length x) (length_bytes_4 n h s)

width_5 : (n : ℕ) → 16777216 ≤ n → length (length_bytes n) ≡ 5
width_5 n h = ap (λ (x : List ℕ). length x) (length_bytes_5 n h)

from_4 : (n : ℕ) → 65536 ≤ n → 4 ≤ length (length_bytes n)
from_4 n h = elim (cases_lt n 16777216) [
  | inl s ↦ let e = width_4 n h s in omega arith
  | inr g ↦ let e = width_5 n g in omega arith
]

from_3 : (n : ℕ) → 256 ≤ n → 3 ≤ length (length_bytes n)
from_3 n h = elim (cases_lt n 65536) [
  | inl s ↦ let e = width_3 n h s in omega arith
  | inr g ↦ let e = from_4 n g in omega arith
]

from_2 : (n : ℕ) → 128 ≤ n → 2 ≤ length (length_bytes n)
from_2 n h = elim (cases_lt n 256) [
  | inl s ↦ let e = width_2 n h s in omega arith
  | inr g ↦ let e = from_3 n g in omega arith
]

from_1 : (n : ℕ) → 1 ≤ length (length_bytes n)
from_1 n = elim (cases_lt n 128) [
  | inl s ↦ let e = width_1 n s in omega arith
  | inr g ↦ let e = from_2 n g in omega arith
]

-- A larger length takes no fewer bytes.
pub length_bytes_le : (n m : ℕ) → n ≤ m → length (length_bytes n) ≤ length (length_bytes m)
length_bytes_le n m le = elim (cases_lt n 128) [
  | inl s ↦ let e = width_1 n s in let f = from_1 m in omega arith
  | inr h2 ↦ elim (cases_lt n 256) [
    | inl s ↦ let e = width_2 n h2 s in let f = from_2 m (omega arith) in omega arith
    | inr h3 ↦ elim (cases_lt n 65536) [
      | inl s ↦ let e = width_3 n h3 s in let f = from_3 m (omega arith) in omega arith
      | inr h4 ↦ elim (cases_lt n 16777216) [
        | inl s ↦ let e = width_4 n h4 s in let f = from_4 m (omega arith) in omega arith
        | inr h5 ↦ let e = width_5 n h5 in let f = width_5 m (omega arith) in omega arith
      ]
    ]
  ]
]
