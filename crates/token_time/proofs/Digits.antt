-- Digits at the front of a text, and their value up to the cap.
use Rattle.std.proofs.Common.{◌≡◌, ℕ, suc, ◌+◌, ◌*◌, ◌<◌, ◌≤◌, Bool, true, false, cond, ◌&&◌, List, [], ◌∷◌, take, drop, length, get_or, refl, subst, add-one}
use Rattle.std.proofs.Common.{arith, ◌⊎◌, inl, inr}
use Rattle.std.specs.List.{prefix_len, list_all}
use Rattle.std.specs.Char.{is_ascii_digit, digit_value}
use Rattle.std.specs.Str.Parse.{AllDigits, digits_value_after}
use Rattle.std.proofs.lemmas.Bool.{cases_lt}
use Rattle.std.proofs.lemmas.Bool.Decides.{nat_tests}
use Rattle.std.proofs.lemmas.List.{at_drop_more}
use Rattle.std.proofs.Math.Seq.{drop-cons}
use Rattle.token_time.specs.Decimal.{capped}

digit_below : (x : ℕ) → is_ascii_digit x ≡ true → digit_value x < 10
digit_below x e = grind (arith, nat_tests)

front_at : (x : ℕ) (xs : List ℕ) (n : ℕ) → AllDigits 10 (take n xs) → (b : Bool) → is_ascii_digit x ≡ b → AllDigits 10 (take (cond b (1 + n) 0) (x ∷ xs))
front_at x xs n more true e = let s : 1 + n ≡ suc n = omega arith in rw s (digit_below x e, more)
front_at x xs n more false e = tt

pub front_digits : (xs : List ℕ) → AllDigits 10 (take (prefix_len is_ascii_digit xs) xs)
front_digits [] = tt
front_digits (x ∷ xs) = front_at x xs (prefix_len is_ascii_digit xs) (front_digits xs) (is_ascii_digit x) refl

digits_at : (x : ℕ) (xs : List ℕ) → (list_all is_ascii_digit xs ≡ true → AllDigits 10 xs) → (b : Bool) → is_ascii_digit x ≡ b
    → (b && list_all is_ascii_digit xs) ≡ true → AllDigits 10 (x ∷ xs)
digits_at x xs more true e h = (digit_below x e, more h)
digits_at x xs more false e h = absurd (cc)

-- bytes that are all digits
pub all_digits : (xs : List ℕ) → list_all is_ascii_digit xs ≡ true → AllDigits 10 xs
all_digits [] h = tt
all_digits (x ∷ xs) h = digits_at x xs (all_digits xs) (is_ascii_digit x) refl h

pub digits_drop : (xs : List ℕ) (i : ℕ) → i < length xs → AllDigits 10 (drop i xs) → (digit_value (get_or xs i 0) < 10) × AllDigits 10 (drop (i + 1) xs)
digits_drop xs i lt h =
    let s : drop i xs ≡ get_or xs i 0 ∷ drop (suc i) xs = drop-cons xs i 0 lt in
    let parts = subst (AllDigits 10) s h in
    (parts.0, rw add-one parts.1)

pub value_after_ge : (n : ℕ) (ds : List ℕ) → n ≤ digits_value_after 10 n ds
value_after_ge n [] = omega arith
value_after_ge n (d ∷ ds) = let more = value_after_ge (n * 10 + digit_value d) ds in omega arith

-- a value that the cap cut stays cut
pub capped_after : (n : ℕ) (ds : List ℕ) → capped (digits_value_after 10 (capped n) ds) ≡ capped (digits_value_after 10 n ds)
capped_after n ds = by_size (cases_lt 1000000000000000000000 n)
  where
    by_size : (1000000000000000000000 < n) ⊎ (n ≤ 1000000000000000000000) → capped (digits_value_after 10 (capped n) ds) ≡ capped (digits_value_after 10 n ds)
    by_size (inr small) = let e : capped n ≡ n = omega arith in rw e
    by_size (inl big) =
        let e : capped n ≡ 1000000000000000000000 = omega arith in
        let a = value_after_ge n ds in
        let b = value_after_ge 1000000000000000000000 ds in
        rw e (omega arith)

-- one digit more
pub capped_step : (ds : List ℕ) (i n next all : ℕ) → i < length ds → next ≡ capped (n * 10 + digit_value (get_or ds i 0))
    → capped (digits_value_after 10 n (drop i ds)) ≡ all → capped (digits_value_after 10 next (drop (i + 1) ds)) ≡ all
capped_step ds i n next all lt is so_far =
    let turn = at_drop_more (λ r. capped (digits_value_after 10 n r)) ds i 0 lt in
    let cut = capped_after (n * 10 + digit_value (get_or ds i 0)) (drop (i + 1) ds) in
    rw is (cc)
