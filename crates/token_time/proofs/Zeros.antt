-- A number without the digits at its end.
use Rattle.std.proofs.Common.{◌≡◌, ℕ, zero, suc, ◌+◌, ◌-◌, ◌*◌, ◌/◌, ◌%◌, ◌<◌, ◌≤◌, ◌^◌, eqb, Bool, true, false, cond, ◌&&◌, List, [], ◌∷◌, ◌++◌, take, drop}
use Rattle.std.proofs.Common.{length, Some, None, option_map, refl, sym, ap, ◌∙◌, subst, append_assoc, length-append, length-drop, arith, ◌⊎◌, inl, inr}
use Rattle.std.specs.Char.{digit_value}
use Rattle.std.specs.Str.Parse.{AllDigits, digits_value_after, digits_value}
use Rattle.std.proofs.lemmas.Bool.{cases_lt}
use Rattle.std.proofs.lemmas.Bool.Decides.{nat_tests}
use Rattle.std.proofs.lemmas.List.{take-append-drop}
use Rattle.std.proofs.lemmas.List.Folds.{list_all-append}
use Rattle.std.proofs.lemmas.Int.Digits.{digits_value-lt}
use Rattle.std.proofs.lemmas.Nat.{mod-mul-add, div-mul-add}
use Rattle.std.proofs.Math.Seq.{take-length, drop-length}
use Rattle.std.proofs.Math.Nat.{pow-le-pow_right, mod-eq_of_lt, div-eq_of_lt, mul_assoc, add-mul, pow-succ'}
use Rattle.token_time.specs.Decimal.{capped, all_zeros}
use Rattle.token_time.specs.Nanoseconds.{whole_quotient}
use Rattle.token_time.proofs.Digits.{capped_after}

pub value_append : (n : ℕ) (xs ys : List ℕ) → digits_value_after 10 n (xs ++ ys) ≡ digits_value_after 10 (digits_value_after 10 n xs) ys
value_append n [] ys = refl
value_append n (x ∷ xs) ys = value_append (n * 10 + digit_value x) xs ys

-- two lists of digits in turn
pub capped_both : (xs ys : List ℕ) (v1 v2 : ℕ) → v1 ≡ capped (digits_value 10 xs) → v2 ≡ capped (digits_value_after 10 v1 ys)
    → v2 ≡ capped (digits_value 10 (xs ++ ys))
capped_both xs ys v1 v2 e1 e2 = rw (e2, e1, value_append 0 xs ys) (capped_after (digits_value 10 xs) ys)

value_after : (n : ℕ) (ds : List ℕ) → digits_value_after 10 n ds ≡ n * 10 ^ length ds + digits_value 10 ds
value_after n [] = omega arith
value_after n (d ∷ ds) =
    let a = value_after (n * 10 + digit_value d) ds in
    let b = value_after (0 * 10 + digit_value d) ds in
    let z : 0 * 10 + digit_value d ≡ digit_value d = omega arith in
    let s : 10 ^ suc (length ds) ≡ 10 * 10 ^ length ds = pow-succ' 10 (length ds) in
    let d1 : (n * 10 + digit_value d) * 10 ^ length ds ≡ n * 10 * 10 ^ length ds + digit_value d * 10 ^ length ds =
    add-mul (n * 10) (digit_value d) (10 ^ length ds) in
    let d2 : n * 10 * 10 ^ length ds ≡ n * (10 * 10 ^ length ds) = mul_assoc n 10 (10 ^ length ds) in
    rw (s, a, b, z) (omega arith)

zero_digit : (n d : ℕ) → digit_value d < 10 → eqb (n * 10 + digit_value d) 0 ≡ (eqb n 0 && eqb d 48)
zero_digit n d h = grind (arith, nat_tests)

and_assoc : (a b c : Bool) → ((a && b) && c) ≡ (a && (b && c))
and_assoc true b c = refl
and_assoc false b c = refl

zeros_after : (n : ℕ) (ds : List ℕ) → AllDigits 10 ds → eqb (digits_value_after 10 n ds) 0 ≡ (eqb n 0 && all_zeros ds)
zeros_after n [] h = by_test (eqb n 0)
  where
    by_test : (b : Bool) → b ≡ (b && true)
    by_test true = refl
    by_test false = refl
zeros_after n (d ∷ ds) h =
    zeros_after (n * 10 + digit_value d) ds h.1 ∙ rw (zero_digit n d h.0) (and_assoc (eqb n 0) (eqb d 48) (all_zeros ds))

-- a number's rest and quotient at the digits at its end
module _ (front back : List ℕ) (z : ℕ) (digits : AllDigits 10 back) where
  below : digits_value 10 back < 10 ^ length back
  below = digits_value-lt 10 back digits

  parts : digits_value 10 (front ++ back) ≡ digits_value 10 front * 10 ^ length back + digits_value 10 back
  parts = value_append 0 front back ∙ value_after (digits_value 10 front) back

  from_parts : digits_value 10 (front ++ back) % 10 ^ z ≡ digits_value 10 back → digits_value 10 (front ++ back) / 10 ^ z ≡ digits_value 10 front
      → whole_quotient (digits_value 10 (front ++ back)) 0 z ≡ cond (all_zeros back) (Some (digits_value 10 front)) None
  unfolding whole_quotient
  from_parts rest quotient =
      let one : digits_value 10 (front ++ back) * 10 ^ 0 ≡ digits_value 10 (front ++ back) = omega arith in
      rw (one, rest, quotient, zeros_after 0 back digits)

  pub quotient_at : length back ≡ z → whole_quotient (digits_value 10 (front ++ back)) 0 z ≡ cond (all_zeros back) (Some (digits_value 10 front)) None
  quotient_at e =
      let b : digits_value 10 back < 10 ^ z = subst (λ n. digits_value 10 back < 10 ^ n) e below in
      let p : digits_value 10 (front ++ back) ≡ digits_value 10 front * 10 ^ z + digits_value 10 back =
      subst (λ n. digits_value 10 (front ++ back) ≡ digits_value 10 front * 10 ^ n + digits_value 10 back) e parts in
      from_parts (rw p (mod-mul-add (digits_value 10 front) (10 ^ z) (digits_value 10 back) b))
      (rw p (div-mul-add (digits_value 10 front) (10 ^ z) (digits_value 10 back) b))

  pub quotient_past : length back ≤ z → front ≡ [] → whole_quotient (digits_value 10 (front ++ back)) 0 z
      ≡ cond (all_zeros back) (Some (digits_value 10 front)) None
  quotient_past h e =
      let v : digits_value 10 front ≡ 0 = rw e refl in
      let p : digits_value 10 (front ++ back) ≡ digits_value 10 back = rw e refl in
      let s : 10 ^ length back ≤ 10 ^ z = pow-le-pow_right {n = 10} (omega arith) h in
      let lt : digits_value 10 back < 10 ^ z = omega (arith, below) in
      from_parts (rw p (mod-eq_of_lt lt)) (rw (p, v) (div-eq_of_lt lt))

digits_append : (xs ys : List ℕ) → AllDigits 10 xs → AllDigits 10 ys → AllDigits 10 (xs ++ ys)
digits_append [] ys hx hy = hy
digits_append (x ∷ xs) ys hx hy = (hx.0, digits_append xs ys hx.1 hy)

pub digits_rest : (i : ℕ) (xs : List ℕ) → AllDigits 10 xs → AllDigits 10 (drop i xs)
digits_rest zero xs h = h
digits_rest (suc i) [] h = tt
digits_rest (suc i) (x ∷ xs) h = digits_rest i xs h.1

pub digits_first : (i : ℕ) (xs : List ℕ) → AllDigits 10 xs → AllDigits 10 (take i xs)
digits_first zero xs h = tt
digits_first (suc i) [] h = tt
digits_first (suc i) (x ∷ xs) h = (h.0, digits_first i xs h.1)

-- where there are more zeros at the end than digits of the second list
module _ (w f : List ℕ) (z k : ℕ) (hw : AllDigits 10 w) (hf : AllDigits 10 f) (past : length f < z) (kept : k ≡ length w - (z - length f)) where
  all : w ++ f ≡ take k w ++ (drop k w ++ f)
  all = ap (λ x. x ++ f) (sym (take-append-drop k w)) ∙ append_assoc (take k w) (drop k w) f

  both : AllDigits 10 (drop k w ++ f)
  both = digits_append (drop k w) f (digits_rest k w hw) hf

  zeros : all_zeros (drop k w ++ f) ≡ (all_zeros (drop k w) && all_zeros f)
  zeros = list_all-append (λ b. eqb b 48) (drop k w) f

  len : length (drop k w ++ f) ≡ length w - k + length f
  len = length-append (drop k w) f ∙ ap (λ n. n + length f) (length-drop k w)

  quotient : whole_quotient (digits_value 10 (take k w ++ (drop k w ++ f))) 0 z ≡ cond (all_zeros (drop k w ++ f)) (Some (digits_value 10 (take k w))) None
  quotient = by_size (cases_lt (length w) (z - length f))
    where
      by_size : (length w < z - length f) ⊎ (z - length f ≤ length w)
          → whole_quotient (digits_value 10 (take k w ++ (drop k w ++ f))) 0 z ≡ cond (all_zeros (drop k w ++ f)) (Some (digits_value 10 (take k w))) None
      by_size (inl short) =
          let none : k ≡ 0 = omega arith in
          quotient_past (take k w) (drop k w ++ f) z both (omega (arith, len)) (rw none refl)
      by_size (inr long) = quotient_at (take k w) (drop k w ++ f) z both (omega (arith, len))

  past_end : whole_quotient (digits_value 10 (w ++ f)) 0 z ≡ cond (all_zeros (drop k w) && all_zeros f) (Some (digits_value 10 (take k w))) None
  past_end = rw all (quotient ∙ ap (λ b. cond b (Some (digits_value 10 (take k w))) None) zeros)

within_end : (w f : List ℕ) (z i : ℕ) → AllDigits 10 f → z ≤ length f → i ≡ length f - z
    → whole_quotient (digits_value 10 (w ++ f)) 0 z ≡ cond (all_zeros (drop i f)) (Some (digits_value 10 (w ++ take i f))) None
within_end w f z i hf within kept =
    let all : w ++ f ≡ (w ++ take i f) ++ drop i f = ap (λ x. w ++ x) (sym (take-append-drop i f)) ∙ sym (append_assoc w (take i f) (drop i f)) in
    let len : length (drop i f) ≡ z = omega (arith, length-drop i f) in
    rw all (quotient_at (w ++ take i f) (drop i f) z (digits_rest i f hf) len)

-- what is left of both lists of digits without so many at their end
pub without_end : (w f : List ℕ) (z : ℕ) → AllDigits 10 w → AllDigits 10 f
    → whole_quotient (digits_value 10 (w ++ f)) 0 z
    ≡ cond (all_zeros (drop (length w - (z - length f)) w) && all_zeros (drop (length f - z) f))
    (Some (digits_value 10 (take (length w - (z - length f)) w ++ take (length f - z) f))) None
without_end w f z hw hf = by_size (cases_lt (length f) z)
  where
    by_size : (length f < z) ⊎ (z ≤ length f) → whole_quotient (digits_value 10 (w ++ f)) 0 z
        ≡ cond (all_zeros (drop (length w - (z - length f)) w) && all_zeros (drop (length f - z) f))
        (Some (digits_value 10 (take (length w - (z - length f)) w ++ take (length f - z) f))) None
    by_size (inl past) =
        let none : length f - z ≡ 0 = omega arith in
        rw (none, value_append 0 (take (length w - (z - length f)) w) []) (past_end w f z (length w - (z - length f)) hw hf past refl)
    by_size (inr within) =
        let none : length w - (z - length f) ≡ length w = omega arith in
        rw (none, take-length w, drop-length w) (within_end w f z (length f - z) hf within refl)

-- the answer where what is left out are zeros, and where it isn't
module _ (w f : List ℕ) (z wz : ℕ) (w1 w2 f1 f2 : List ℕ) (b : Bool) (hw : AllDigits 10 w) (hf : AllDigits 10 f) (wzs : wz ≡ z - length f)
    (w1s : w1 ≡ take (length w - wz) w) (w2s : w2 ≡ drop (length w - wz) w) (f1s : f1 ≡ take (length f - z) f) (f2s : f2 ≡ drop (length f - z) f)
    (test : b ≡ (all_zeros w2 && all_zeros f2)) where
  answer : whole_quotient (digits_value 10 (w ++ f)) 0 z ≡ cond b (Some (digits_value 10 (w1 ++ f1))) None
  answer = rw (test, w1s, w2s, f1s, f2s, wzs) (without_end w f z hw hf)

  pub some_left : b ≡ true → (v1 v2 : ℕ) → v1 ≡ capped (digits_value 10 w1) → v2 ≡ capped (digits_value_after 10 v1 f1)
      → Some v2 ≡ option_map capped (whole_quotient (digits_value 10 (w ++ f)) 0 z)
  some_left holds v1 v2 e1 e2 = let v = capped_both w1 f1 v1 v2 e1 e2 in rw (answer, holds) (ap Some v)

  pub none_left : b ≡ false → None ≡ option_map capped (whole_quotient (digits_value 10 (w ++ f)) 0 z)
  none_left fails = rw (answer, fails)
