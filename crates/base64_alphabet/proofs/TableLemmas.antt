-- What the test of a table tells.
use Rattle.std.proofs.Common.{◌≡◌, ℕ, zero, suc, ◌<◌, ◌==◌, Bool, true, false, ◌&&◌, not, List, [], ◌∷◌, pos, length, slice_index, arith, refl, nat_lt}
use Rattle.std.proofs.Common.{if◌then◌else◌, inl, inr, int_lt, ◌||◌}
use Rattle.std.proofs.lemmas.Bool.{and_parts, eqb-true, ltb-true, cases_Bool, le-ltb}
use Rattle.std.proofs.lemmas.Grind.{common_steps}
use Rattle.std.proofs.lemmas.Int.{ints}
use Rattle.base64_alphabet.specs.Group.{answer_of, sextet}
use Rattle.base64_alphabet.specs.Table.{is_table, is_ascii, is_distinct, is_in, digit_of, place_of, all_in, IsPlace}

pub record Facts (table : List ℕ) : Type 0 where
  pub len : length table ≡ 64
  pub distinct : is_distinct table ≡ true
  pub ascii : is_ascii table ≡ true
  pub has_a : is_in table 65 ≡ true
  pub no_equals : is_in table 61 ≡ false
  pub no_cr : is_in table 13 ≡ false
  pub no_lf : is_in table 10 ≡ false

not_is : (b : Bool) → not b ≡ true → b ≡ false
not_is true h = cc
not_is false h = refl

pub facts : (table : List ℕ) → is_table table ≡ true → Facts table
facts table h =
    let p6 = and_parts ((length table == 64) && is_distinct table && is_ascii table && is_in table 65 && not (is_in table 61) && not (is_in table 13))
    (not (is_in table 10)) h in
    let p5 = and_parts ((length table == 64) && is_distinct table && is_ascii table && is_in table 65 && not (is_in table 61)) (not (is_in table 13)) p6.0 in
    let p4 = and_parts ((length table == 64) && is_distinct table && is_ascii table && is_in table 65) (not (is_in table 61)) p5.0 in
    let p3 = and_parts ((length table == 64) && is_distinct table && is_ascii table) (is_in table 65) p4.0 in
    let p2 = and_parts ((length table == 64) && is_distinct table) (is_ascii table) p3.0 in
    let p1 = and_parts (length table == 64) (is_distinct table) p2.0 in
    record {
      len = eqb-true _ _ p1.0;
      distinct = p1.1;
      ascii = p2.1;
      has_a = p3.1;
      no_equals = not_is _ p4.1;
      no_cr = not_is _ p5.1;
      no_lf = not_is _ p6.1;
    }

pub ascii_at : (table : List ℕ) → is_ascii table ≡ true → (k : ℕ) → slice_index table k < 128
ascii_at [] h k = grind (arith, common_steps)
ascii_at (x ∷ xs) h zero = ltb-true _ _ (and_parts (nat_lt x 128) (is_ascii xs) h).0
ascii_at (x ∷ xs) h (suc k) = ascii_at xs (and_parts (nat_lt x 128) (is_ascii xs) h).1 k

pub digit_below : (table : List ℕ) (c : ℕ) → is_in table c ≡ true → digit_of table c < length table
digit_below [] c h = absurd (cc)
digit_below (x ∷ xs) c h = elim (cases_Bool (x == c)) [
  | inl e ↦ rw e (omega arith)
  | inr e ↦ rw e (let r = digit_below xs c (rw e at h) in omega arith)
]

pub place_is_place : (table : List ℕ) (c : ℕ) → length table ≡ 64 → IsPlace (place_of table c)
place_is_place table c len = elim (cases_Bool (is_in table c)) [
  | inl e ↦ (let lt = digit_below table c e in rw e (omega (arith, ints), omega (arith, ints)))
  | inr e ↦ rw e (omega (arith, ints), omega (arith, ints))
]

not_below : (n : ℕ) → nat_lt n 0 ≡ false
not_below n = le-ltb n 0 (omega arith)

-- what four places tell of four characters
pub place_sign : (table : List ℕ) (c : ℕ) → int_lt (place_of table c) (pos 0) ≡ not (is_in table c)
place_sign table c = elim (cases_Bool (is_in table c)) [ inl e ↦ rw e (not_below (digit_of table c)) | inr e ↦ rw e refl ]

four_bools : (p q r s : Bool) → (if not p || not q || not r || not s then pos 1 else pos 0) ≡ (if p && (q && (r && (s && true))) then pos 0 else pos 1)
four_bools true true true true = refl
four_bools true true true false = refl
four_bools true true false s = refl
four_bools true false r s = refl
four_bools false q r s = refl

pub four_list : (xs : List ℕ) → length xs ≡ 4 → xs ≡ slice_index xs 0 ∷ slice_index xs 1 ∷ slice_index xs 2 ∷ slice_index xs 3 ∷ []
four_list (a ∷ b ∷ c ∷ d ∷ []) h = refl
four_list [] h = absurd (omega arith)
four_list (a ∷ []) h = absurd (omega arith)
four_list (a ∷ b ∷ []) h = absurd (omega arith)
four_list (a ∷ b ∷ c ∷ []) h = absurd (omega arith)
four_list (a ∷ b ∷ c ∷ d ∷ e ∷ xs) h = absurd (omega arith)

pub four_answer : (table src : List ℕ) → length src ≡ 4
    → answer_of (place_of table (slice_index src 0)) (place_of table (slice_index src 1)) (place_of table (slice_index src 2))
    (place_of table (slice_index src 3))
    ≡ (if all_in table src then pos 0 else pos 1)
four_answer table (a ∷ b ∷ c ∷ d ∷ []) h = rw (place_sign table a, place_sign table b, place_sign table c, place_sign table d)
    (four_bools (is_in table a) (is_in table b) (is_in table c) (is_in table d))
four_answer table [] h = absurd (omega arith)
four_answer table (a ∷ []) h = absurd (omega arith)
four_answer table (a ∷ b ∷ []) h = absurd (omega arith)
four_answer table (a ∷ b ∷ c ∷ []) h = absurd (omega arith)
four_answer table (a ∷ b ∷ c ∷ d ∷ e ∷ xs) h = absurd (omega arith)

pub sextet_is : (table : List ℕ) (c : ℕ) → is_in table c ≡ true → sextet (place_of table c) ≡ digit_of table c
sextet_is table c e = rw (e, not_below (digit_of table c)) refl

pub all_in_at : (table src : List ℕ) → all_in table src ≡ true → (k : ℕ) → k < length src → is_in table (slice_index src k) ≡ true
all_in_at table [] h k lt = absurd (omega arith)
all_in_at table (c ∷ src) h zero lt = (and_parts (is_in table c) (all_in table src) h).0
all_in_at table (c ∷ src) h (suc k) lt = all_in_at table src (and_parts (is_in table c) (all_in table src) h).1 k (omega arith)
