-- The digits of eight groups, in lanes of bytes.
use Rattle.std.proofs.Common.{◌≡◌, ℕ, zero, suc, ◌+◌, ◌*◌, ◌/◌, ◌%◌, ◌<◌, true, List, [], ◌∷◌, ◌++◌, length, arith, refl, ◌∙◌, map, slice_index, take, bit_and}
use Rattle.std.proofs.lemmas.Bool.{lt-ltb}
use Rattle.std.proofs.lemmas.Grind.{numeral_and}
use Rattle.std.proofs.lemmas.Nat.{and_comm}
use Rattle.std.proofs.lemmas.Simd.{pick_l_left, pick_l-range_with_len}
use Rattle.std.specs.Simd.Lanes.{all_below}
use Rattle.std.specs.List.{range_with_len}
use lib.Lanes.{pick_l}
use Rattle.base64_alphabet.specs.Group.{End, High, Low, characters_of, digits_of_number, number}
use Rattle.base64_alphabet.specs.Encoding.{characters}
use Rattle.base64_alphabet.specs.Lanes.{digits_of_bytes}

-- the first 24 lanes in order
pub first_lanes : (xs : List ℕ) → length xs ≡ 32 → pick_l 0 (xs ++ xs) (range_with_len 0 24) ≡ take 24 xs
first_lanes xs e = pick_l_left 0 xs xs 32 (range_with_len 0 24) e tt ∙ pick_l-range_with_len 0 xs 0 24 (omega arith)

-- the digits of groups, as lanes compute them
abbrev pub high_digits : List ℕ → List ℕ
high_digits (a ∷ b ∷ c ∷ rest) = bit_and ((a * 64 % 256 + a / 4) % 256) 63 ∷ bit_and ((a * 16 % 256 + b / 16) % 256) 63
    ∷ bit_and ((b * 4 % 256 + c / 64) % 256) 63 ∷ bit_and ((c * 64 % 256 + c / 1) % 256) 63 ∷ high_digits rest
high_digits _ = []

abbrev pub low_digits : List ℕ → List ℕ
low_digits (a ∷ b ∷ c ∷ rest) = bit_and ((a * 64 % 256 + a / 1) % 256) 63 ∷ bit_and ((b * 4 % 256 + a / 64) % 256) 63
    ∷ bit_and ((c * 16 % 256 + b / 16) % 256) 63 ∷ bit_and ((c * 64 % 256 + c / 4) % 256) 63 ∷ low_digits rest
low_digits _ = []

low_six : (x : ℕ) → bit_and x 63 ≡ x % 64
low_six x = and_comm x 63 ∙ numeral_and 62 x refl

high_group : (a b c : ℕ) → a < 256 → b < 256 → c < 256
    → (bit_and ((a * 64 % 256 + a / 4) % 256) 63 ∷ bit_and ((a * 16 % 256 + b / 16) % 256) 63 ∷ bit_and ((b * 4 % 256 + c / 64) % 256) 63
    ∷ bit_and ((c * 64 % 256 + c / 1) % 256) 63 ∷ [])
    ≡ digits_of_number High (number High a b c)
high_group a b c la lb lc =
    let p : bit_and ((a * 64 % 256 + a / 4) % 256) 63 ≡ (a * 65536 + b * 256 + c) / 262144 = low_six ((a * 64 % 256 + a / 4) % 256) ∙ omega arith in
    let q : bit_and ((a * 16 % 256 + b / 16) % 256) 63 ≡ (a * 65536 + b * 256 + c) / 4096 % 64 = low_six ((a * 16 % 256 + b / 16) % 256) ∙ omega arith in
    let r : bit_and ((b * 4 % 256 + c / 64) % 256) 63 ≡ (a * 65536 + b * 256 + c) / 64 % 64 = low_six ((b * 4 % 256 + c / 64) % 256) ∙ omega arith in
    let s : bit_and ((c * 64 % 256 + c / 1) % 256) 63 ≡ (a * 65536 + b * 256 + c) % 64 = low_six ((c * 64 % 256 + c / 1) % 256) ∙ omega arith in
    (λ i. p i ∷ q i ∷ r i ∷ s i ∷ [])

low_group : (a b c : ℕ) → a < 256 → b < 256 → c < 256
    → (bit_and ((a * 64 % 256 + a / 1) % 256) 63 ∷ bit_and ((b * 4 % 256 + a / 64) % 256) 63 ∷ bit_and ((c * 16 % 256 + b / 16) % 256) 63
    ∷ bit_and ((c * 64 % 256 + c / 4) % 256) 63 ∷ [])
    ≡ digits_of_number Low (number Low a b c)
low_group a b c la lb lc =
    let p : bit_and ((a * 64 % 256 + a / 1) % 256) 63 ≡ (c * 65536 + b * 256 + a) % 64 = low_six ((a * 64 % 256 + a / 1) % 256) ∙ omega arith in
    let q : bit_and ((b * 4 % 256 + a / 64) % 256) 63 ≡ (c * 65536 + b * 256 + a) / 64 % 64 = low_six ((b * 4 % 256 + a / 64) % 256) ∙ omega arith in
    let r : bit_and ((c * 16 % 256 + b / 16) % 256) 63 ≡ (c * 65536 + b * 256 + a) / 4096 % 64 = low_six ((c * 16 % 256 + b / 16) % 256) ∙ omega arith in
    let s : bit_and ((c * 64 % 256 + c / 4) % 256) 63 ≡ (c * 65536 + b * 256 + a) / 262144 = low_six ((c * 64 % 256 + c / 4) % 256) ∙ omega arith in
    (λ i. p i ∷ q i ∷ r i ∷ s i ∷ [])

pub high_digits_are : (xs : List ℕ) → ((k : ℕ) → slice_index xs k < 256) → high_digits xs ≡ digits_of_bytes High xs
unfolding digits_of_bytes
high_digits_are (a ∷ b ∷ c ∷ rest) low = (λ i. high_group a b c (low 0) (low 1) (low 2) i ++ high_digits_are rest (λ k. low (suc (suc (suc k)))) i)
high_digits_are [] low = refl
high_digits_are (a ∷ []) low = refl
high_digits_are (a ∷ b ∷ []) low = refl

pub low_digits_are : (xs : List ℕ) → ((k : ℕ) → slice_index xs k < 256) → low_digits xs ≡ digits_of_bytes Low xs
unfolding digits_of_bytes
low_digits_are (a ∷ b ∷ c ∷ rest) low = (λ i. low_group a b c (low 0) (low 1) (low 2) i ++ low_digits_are rest (λ k. low (suc (suc (suc k)))) i)
low_digits_are [] low = refl
low_digits_are (a ∷ []) low = refl
low_digits_are (a ∷ b ∷ []) low = refl

pub bytes_taken : (n : ℕ) (xs : List ℕ) → ((k : ℕ) → slice_index xs k < 256) → (k : ℕ) → slice_index (take n xs) k < 256
bytes_taken zero xs low k = omega arith
bytes_taken (suc n) [] low k = omega arith
bytes_taken (suc n) (x ∷ xs) low zero = low 0
bytes_taken (suc n) (x ∷ xs) low (suc k) = bytes_taken n xs (λ j. low (suc j)) k

-- ---- what the digits are

pub length-digits : (end : End) (m : ℕ) (xs : List ℕ) → length xs ≡ 3 * m → length (digits_of_bytes end xs) ≡ 4 * m
unfolding digits_of_bytes
length-digits end zero [] e = refl
length-digits end zero (a ∷ xs) e = absurd (omega arith)
length-digits High (suc m) (a ∷ b ∷ c ∷ xs) e = let n = length-digits High m xs (omega arith) in omega arith
length-digits Low (suc m) (a ∷ b ∷ c ∷ xs) e = let n = length-digits Low m xs (omega arith) in omega arith
length-digits end (suc m) [] e = absurd (omega arith)
length-digits end (suc m) (a ∷ []) e = absurd (omega arith)
length-digits end (suc m) (a ∷ b ∷ []) e = absurd (omega arith)

all_four : (p q r s : ℕ) (rest : List ℕ) → p < 64 → q < 64 → r < 64 → s < 64 → all_below 64 rest ≡ true → all_below 64 (p ∷ q ∷ r ∷ s ∷ rest) ≡ true
all_four p q r s rest lp lq lr ls h = rw (lt-ltb p 64 lp, lt-ltb q 64 lq, lt-ltb r 64 lr, lt-ltb s 64 ls) h

pub digits_below : (end : End) (xs : List ℕ) → ((k : ℕ) → slice_index xs k < 256) → all_below 64 (digits_of_bytes end xs) ≡ true
unfolding digits_of_bytes
digits_below High (a ∷ b ∷ c ∷ rest) low =
    let n : ℕ = a * 65536 + b * 256 + c in
    let la = low 0 in
    let lb = low 1 in
    let lc = low 2 in
    all_four (n / 262144) (n / 4096 % 64) (n / 64 % 64) (n % 64) (digits_of_bytes High rest) (omega arith) (omega arith) (omega arith) (omega arith)
    (digits_below High rest (λ k. low (suc (suc (suc k)))))
digits_below Low (a ∷ b ∷ c ∷ rest) low =
    let n : ℕ = c * 65536 + b * 256 + a in
    let la = low 0 in
    let lb = low 1 in
    let lc = low 2 in
    all_four (n % 64) (n / 64 % 64) (n / 4096 % 64) (n / 262144) (digits_of_bytes Low rest) (omega arith) (omega arith) (omega arith) (omega arith)
    (digits_below Low rest (λ k. low (suc (suc (suc k)))))
digits_below end [] low = refl
digits_below end (a ∷ []) low = refl
digits_below end (a ∷ b ∷ []) low = refl

pub digits_are_characters : (end : End) (table : List ℕ) (m : ℕ) (xs : List ℕ) → length xs ≡ 3 * m
    → map (slice_index table) (digits_of_bytes end xs) ≡ characters end table xs
unfolding digits_of_bytes characters
digits_are_characters end table zero [] e = refl
digits_are_characters end table zero (a ∷ xs) e = absurd (omega arith)
digits_are_characters High table (suc m) (a ∷ b ∷ c ∷ xs) e = (λ i. characters_of High table a b c ++ digits_are_characters High table m xs (omega arith) i)
digits_are_characters Low table (suc m) (a ∷ b ∷ c ∷ xs) e = (λ i. characters_of Low table a b c ++ digits_are_characters Low table m xs (omega arith) i)
digits_are_characters end table (suc m) [] e = absurd (omega arith)
digits_are_characters end table (suc m) (a ∷ []) e = absurd (omega arith)
digits_are_characters end table (suc m) (a ∷ b ∷ []) e = absurd (omega arith)
