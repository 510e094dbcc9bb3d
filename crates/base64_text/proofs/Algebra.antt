-- Groups there and back.
use Rattle.std.proofs.Common.{◌≡◌, ℕ, zero, suc, ◌+◌, ◌*◌, ◌/◌, ◌%◌, ◌<◌, true, ◌==◌, not, List, [], ◌∷◌, length, slice_index, arith, rules, refl, ap, inl, inr}
use Rattle.std.proofs.lemmas.Bool.{and_parts, cases_Bool, eqb-true}
use Rattle.base64_alphabet.specs.Group.{End, High, Low, bytes_of_number, digits_of_number, number, number_of_places}
use Rattle.base64_alphabet.specs.Table.{digit_of, is_distinct, is_in}

-- the bytes of a group's number
pub bytes_back : (end : End) (a b c : ℕ) → a < 256 → b < 256 → c < 256 → bytes_of_number end (number end a b c) ≡ a ∷ b ∷ c ∷ []
bytes_back High a b c p q r =
    let x : (a * 65536 + b * 256 + c) / 65536 ≡ a = omega arith in
    let y : (a * 65536 + b * 256 + c) / 256 % 256 ≡ b = omega arith in
    let z : (a * 65536 + b * 256 + c) % 256 ≡ c = omega arith in
    rw (x, y, z)
bytes_back Low a b c p q r =
    let x : (c * 65536 + b * 256 + a) / 65536 ≡ c = omega arith in
    let y : (c * 65536 + b * 256 + a) / 256 % 256 ≡ b = omega arith in
    let z : (c * 65536 + b * 256 + a) % 256 ≡ a = omega arith in
    rw (x, y, z)

-- the digits of four digits' number
pub digits_back : (end : End) (p q r s : ℕ) → p < 64 → q < 64 → r < 64 → s < 64 → digits_of_number end (number_of_places end p q r s) ≡ p ∷ q ∷ r ∷ s ∷ []
digits_back High p q r s a b c d =
    let x : (p * 262144 + q * 4096 + r * 64 + s) / 262144 ≡ p = omega arith in
    let y : (p * 262144 + q * 4096 + r * 64 + s) / 4096 % 64 ≡ q = omega arith in
    let z : (p * 262144 + q * 4096 + r * 64 + s) / 64 % 64 ≡ r = omega arith in
    let w : (p * 262144 + q * 4096 + r * 64 + s) % 64 ≡ s = omega arith in
    rw (x, y, z, w)
digits_back Low p q r s a b c d =
    let x : (s * 262144 + r * 4096 + q * 64 + p) / 262144 ≡ s = omega arith in
    let y : (s * 262144 + r * 4096 + q * 64 + p) / 4096 % 64 ≡ r = omega arith in
    let z : (s * 262144 + r * 4096 + q * 64 + p) / 64 % 64 ≡ q = omega arith in
    let w : (s * 262144 + r * 4096 + q * 64 + p) % 64 ≡ p = omega arith in
    rw (x, y, z, w)

-- the number of a number's bytes
pub number_of_bytes : (n : ℕ) → n / 65536 * 65536 + n / 256 % 256 * 256 + n % 256 ≡ n
number_of_bytes n = omega arith

-- the number of a number's digits
pub number_of_its_digits : (n : ℕ) → n / 262144 * 262144 + n / 4096 % 64 * 4096 + n / 64 % 64 * 64 + n % 64 ≡ n
number_of_its_digits n = omega arith

-- a character's place in the table, and back
pub at_digit : (table : List ℕ) (c : ℕ) → is_in table c ≡ true → slice_index table (digit_of table c) ≡ c
at_digit [] c h = absurd (cc)
at_digit (x ∷ xs) c h = elim (cases_Bool (x == c)) [
  | inl e ↦ rw e (eqb-true x c e)
  | inr e ↦ rw e (at_digit xs c (rw e at h))
]

no_not : not true ≡ true → ⊥
no_not h = cc

pub same : (x : ℕ) → (x == x) ≡ true
same x = search rules

pub is_in_at : (table : List ℕ) (k : ℕ) → k < length table → is_in table (slice_index table k) ≡ true
is_in_at [] k h = absurd (omega arith)
is_in_at (x ∷ xs) zero h = rw (same x) refl
is_in_at (x ∷ xs) (suc k) h = elim (cases_Bool (x == slice_index xs k)) [
  | inl e ↦ rw e refl
  | inr e ↦ rw e (is_in_at xs k (omega arith))
]

pub digit_at : (table : List ℕ) (k : ℕ) → is_distinct table ≡ true → k < length table → digit_of table (slice_index table k) ≡ k
digit_at [] k d h = absurd (omega arith)
digit_at (x ∷ xs) zero d h = rw (same x) refl
digit_at (x ∷ xs) (suc k) d h = elim (cases_Bool (x == slice_index xs k)) [
  | inl e ↦ absurd (let i = is_in_at xs k (omega arith) in let n = (and_parts (not (is_in xs x)) (is_distinct xs) d).0 in let y : x ≡ slice_index xs k =
      eqb-true x _ e in let bad : not true ≡ true = rw (y, i) at n in no_not bad)
  | inr e ↦ rw e (ap suc (digit_at xs k (and_parts (not (is_in xs x)) (is_distinct xs) d).1 (omega arith)))
]
