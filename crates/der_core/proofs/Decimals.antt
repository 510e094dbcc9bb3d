-- Decimal numbers without leading zeros.
use Rattle.std.proofs.Common.{◌≡◌, ℕ, suc, ◌+◌, ◌-◌, ◌*◌, ◌/◌, ◌%◌, ◌^◌, ◌<◌, ◌≤◌, List, [], ◌∷◌, ◌++◌, length, get_or, drop, drop-cons, cond, ltb, Option}
use Rattle.std.proofs.Common.{Some, None, refl, ap, sym, ◌∙◌, inl, inr, arith, add-one, append_assoc}
use Rattle.std.proofs.lemmas.Bool.{lt-ltb, le-ltb, ltb-true, ltb-false, cases_lt}
use Rattle.std.proofs.lemmas.Option.{same_Some, none-some}
use Rattle.std.proofs.lemmas.List.{drop_all}
use Rattle.std.proofs.lemmas.Fmt.{decimal_digit, decimal_step, decimal_by_steps, first_decimal}
use Rattle.std.specs.Fmt.{decimal}
use Rattle.der_core.specs.Oid.{EndsDigits}
use Rattle.der_core.specs.LengthLaws.{branch}

-- Reading digits, where `number` is what the digits before stand for.
unfoldable pub digits_from : ℕ → List ℕ → Option (ℕ × List ℕ)
digits_from number [] = Some (number, [])
digits_from number (d ∷ s) =
    cond (ltb d 48) (Some (number, d ∷ s))
    (cond (ltb 57 d) (Some (number, d ∷ s))
    (cond (ltb (number * 10 + (d - 48)) (2 ^ 32)) (digits_from (number * 10 + (d - 48)) s) None))

-- One more digit.
digits_more : (n d : ℕ) (rest : List ℕ) → d < 10 → n * 10 + d < 2 ^ 32 → digits_from n ((48 + d) ∷ rest) ≡ digits_from (n * 10 + d) rest
unfolding digits_from
digits_more n d rest small fits =
    let e : 48 + d - 48 ≡ d = omega arith in
    let low : 48 ≤ 48 + d = omega arith in
    let high : 48 + d ≤ 57 = omega arith in
    rw (e, le-ltb (48 + d) 48 low, le-ltb 57 (48 + d) high, lt-ltb (n * 10 + d) (2 ^ 32) fits) refl

decimal_read : (n : ℕ) → n < 2 ^ 64 → (rest : List ℕ) → n < 2 ^ 32 → digits_from 0 (decimal n ++ rest) ≡ digits_from n rest
decimal_read =
    decimal_by_steps (λ n ds. (rest : List ℕ) → n < 2 ^ 32 → digits_from 0 (ds ++ rest) ≡ digits_from n rest)
    (λ n h rest fits. digits_more 0 n rest h (omega arith) ∙ ap (λ (k : ℕ). digits_from k rest) (omega arith))
    (λ n ds h more rest fits.
    let d : n % 10 < 10 = omega arith in
    let e : n / 10 * 10 + n % 10 ≡ n = omega arith in
    ap (λ (s : List ℕ). digits_from 0 s) (append_assoc ds ((48 + n % 10) ∷ []) rest)
    ∙ more ((48 + n % 10) ∷ rest) (omega arith)
    ∙ digits_more (n / 10) (n % 10) rest d (omega arith)
    ∙ ap (λ (k : ℕ). digits_from k rest) e)

-- Where digits end, reading ends.
digits_end : (n : ℕ) (rest : List ℕ) → EndsDigits rest → digits_from n rest ≡ Some (n, rest)
unfolding digits_from
digits_end n [] ends = refl
digits_end n (d ∷ s) ends =
    elim (cases_lt d 48) [
      | inl l ↦ rw (lt-ltb d 48 l) refl
      | inr h ↦ elim (cases_lt 57 d) [
        | inl l ↦ rw (le-ltb d 48 h, lt-ltb 57 d l) refl
        | inr g ↦ absurd (ends.no_digit h g)
      ]
    ]

pub digits_again : (n : ℕ) (rest : List ℕ) → n < 2 ^ 32 → EndsDigits rest → digits_from 0 (decimal n ++ rest) ≡ Some (n, rest)
digits_again n rest fits ends = decimal_read n (omega arith) rest fits ∙ digits_end n rest ends

pub record Number (s : List ℕ) (f : ℕ × List ℕ) : Type 0 where
  pub is : s ≡ decimal f.0 ++ f.1
  pub small : f.0 < 2 ^ 32
  pub ended : EndsDigits f.1

-- What was read behind the digits of `m`.
found_behind : (m : ℕ) (s : List ℕ) (f : ℕ × List ℕ) → 1 ≤ m → m < 2 ^ 32 → digits_from m s ≡ Some f → Number (decimal m ++ s) f
unfolding digits_from
found_behind m [] f low fits e = rw (← same_Some _ f e) (record { is = refl; small = fits; ended = record { no_digit = λ h _. omega arith } })
found_behind m (d ∷ s) f low fits e =
    branch (ltb d 48) _ _ _ e
    (λ h e. let l : d < 48 = ltb-true d 48 h in rw (← same_Some _ f e) (record { is = refl; small = fits; ended = record { no_digit = λ h _. omega arith } }))
    (λ h e.
    let low_digit : 48 ≤ d = ltb-false d 48 h in
    branch (ltb 57 d) _ _ _ e
    (λ h e. let l : 57 < d = ltb-true 57 d h in rw (← same_Some _ f e) (record { is = refl; small = fits; ended = record { no_digit = λ _ h. omega arith } }))
    (λ h e.
    let high_digit : d ≤ 57 = ltb-false 57 d h in
    branch (ltb (m * 10 + (d - 48)) (2 ^ 32)) _ _ _ e
    (λ h e.
    let next : m * 10 + (d - 48) < 2 ^ 32 = ltb-true (m * 10 + (d - 48)) (2 ^ 32) h in
    let n : ℕ = m * 10 + (d - 48) in
    let ten : 10 ≤ n = omega arith in
    let up : n / 10 ≡ m = omega arith in
    let digit : 48 + n % 10 ≡ d = omega arith in
    let wide : n < 2 ^ 64 = omega arith in
    let step : decimal n ≡ decimal m ++ d ∷ [] = decimal_step n ten wide ∙ ap (λ (k : ℕ). decimal k ++ (48 + n % 10) ∷ []) up
    ∙ ap (λ (k : ℕ). decimal m ++ k ∷ []) digit in
    let more = found_behind n s f (omega arith) next e in
    record { is = sym (append_assoc (decimal m) (d ∷ []) s) ∙ ap (λ (x : List ℕ). x ++ s) (sym step) ∙ more.is; small = more.small; ended = more.ended })
    (λ _ e. cc)))

-- What was read where the first byte is a digit from 1 on.
pub digits_found : (s : List ℕ) (f : ℕ × List ℕ) → 49 ≤ get_or s 0 0 → get_or s 0 0 ≤ 57 → digits_from 0 s ≡ Some f → Number s f
unfolding digits_from
digits_found [] f low high e = absurd (omega arith)
digits_found (d ∷ s) f low high e =
    let l : 48 ≤ d = omega arith in
    let n : 0 * 10 + (d - 48) < 2 ^ 32 = omega arith in
    let z : 0 * 10 + (d - 48) ≡ d - 48 = omega arith in
    let e' : digits_from (d - 48) s ≡ Some f = sym (rw (le-ltb d 48 l, le-ltb 57 d high, lt-ltb (0 * 10 + (d - 48)) (2 ^ 32) n)
    (ap (λ (k : ℕ). digits_from k s) z)) ∙ e in
    let one : decimal (d - 48) ≡ d ∷ [] = decimal_digit (d - 48) (omega arith) ∙ ap (λ (k : ℕ). k ∷ []) (omega arith) in
    let more = found_behind (d - 48) s f (omega arith) (omega arith) e' in
    record { is = ap (λ (x : List ℕ). x ++ s) (sym one) ∙ more.is; small = more.small; ended = more.ended }

-- Where reading digits finds none, no number stands at the front.
pub digits_none : (s : List ℕ) → digits_from 0 s ≡ None → (n : ℕ) (rest : List ℕ) → n < 2 ^ 32 → EndsDigits rest → s ≡ decimal n ++ rest → ⊥
digits_none s none n rest small ends e = none-some _ (sym none ∙ ap (λ (x : List ℕ). digits_from 0 x) e ∙ digits_again n rest small ends)

-- A number begins with a digit, and with 0 only where it is 0.
decimal_head : (n : ℕ) → n < 2 ^ 64 → (48 ≤ get_or (decimal n) 0 0) × (get_or (decimal n) 0 0 ≤ 57) × (0 < length (decimal n))
decimal_head =
    decimal_by_steps (λ n ds. (48 ≤ get_or ds 0 0) × (get_or ds 0 0 ≤ 57) × (0 < length ds))
    (λ n h. (omega arith, omega arith, omega arith))
    (λ n ds h more. head_kept ds ((48 + n % 10) ∷ []) more)
  where
    head_kept : (ds xs : List ℕ) → (48 ≤ get_or ds 0 0) × (get_or ds 0 0 ≤ 57) × (0 < length ds) → (48 ≤ get_or (ds ++ xs) 0 0)
        × (get_or (ds ++ xs) 0 0 ≤ 57) × (0 < length (ds ++ xs))
    head_kept [] xs h = absurd (omega arith)
    head_kept (d ∷ ds) xs h = (h.0, h.1, omega arith)

-- The first byte of a list is that of its front.
front_head : (xs ys : List ℕ) → 0 < length xs → get_or (xs ++ ys) 0 0 ≡ get_or xs 0 0
front_head [] ys h = absurd (omega arith)
front_head (x ∷ xs) ys h = refl

pub number_head : (s : List ℕ) → (48 ≤ get_or s 0 0 → get_or s 0 0 ≤ 57 → ⊥) → (n : ℕ) (rest : List ℕ) → n < 2 ^ 32 → EndsDigits rest
    → s ≡ decimal n ++ rest → ⊥
number_head s other n rest small ends e =
    let h = decimal_head n (omega arith) in
    let same : get_or s 0 0 ≡ get_or (decimal n) 0 0 = ap (λ (x : List ℕ). get_or x 0 0) e ∙ front_head (decimal n) rest h.2 in
    let low : 48 ≤ get_or (decimal n) 0 0 = h.0 in
    let high : get_or (decimal n) 0 0 ≤ 57 = h.1 in
    other (omega arith) (omega arith)

zero_rest : (s rest : List ℕ) → s ≡ 48 ∷ rest → get_or s 1 0 ≡ get_or rest 0 0
zero_rest s [] e = ap (λ (x : List ℕ). get_or x 1 0) e
zero_rest s (d ∷ rest) e = ap (λ (x : List ℕ). get_or x 1 0) e

-- A 0 with a digit behind it is no number.
pub leading_zero : (s : List ℕ) → get_or s 0 0 ≡ 48 → 48 ≤ get_or s 1 0 → get_or s 1 0 ≤ 57 → (n : ℕ) (rest : List ℕ) → n < 2 ^ 32 → EndsDigits rest
    → s ≡ decimal n ++ rest → ⊥
leading_zero s first low high n rest small ends e =
    elim (cases_lt 0 n) [
      | inl h ↦
          let head : 48 < get_or (decimal n) 0 0 = first_decimal n h (omega arith) in
          let same : get_or s 0 0 ≡ get_or (decimal n) 0 0 = ap (λ (x : List ℕ). get_or x 0 0) e
          ∙ front_head (decimal n) rest (decimal_head n (omega arith)).2 in
          omega arith
      | inr h ↦
          let z : n ≡ 0 = omega arith in
          let zero_text : decimal n ≡ 48 ∷ [] = ap (λ (k : ℕ). decimal k) z ∙ decimal_digit 0 (omega arith) in
          let same : get_or s 1 0 ≡ get_or rest 0 0 = zero_rest s rest (e ∙ ap (λ (x : List ℕ). x ++ rest) zero_text) in
          ends.no_digit (omega arith) (omega arith)
    ]

-- A single 0 is one.
pub zero_found : (s : List ℕ) → get_or s 0 0 ≡ 48 → 0 < length s → s ≡ decimal 0 ++ drop 1 s
zero_found [] first some = absurd (omega arith)
zero_found (d ∷ s) first some = ap (λ (k : ℕ). k ∷ s) first ∙ ap (λ (x : List ℕ). x ++ s) (sym (decimal_digit 0 (omega arith)))

-- A number and what follows it are determined.
pub number_unique : (n m : ℕ) (r r' : List ℕ) → n < 2 ^ 32 → m < 2 ^ 32 → EndsDigits r → EndsDigits r' → decimal n ++ r ≡ decimal m ++ r' → (n ≡ m) × (r ≡ r')
number_unique n m r r' small small' ends ends' e =
    let both = same_Some _ _ (sym (digits_again n r small ends) ∙ ap (λ (x : List ℕ). digits_from 0 x) e ∙ digits_again m r' small' ends') in
    (ap (λ (f : ℕ × List ℕ). f.0) both, ap (λ (f : ℕ × List ℕ). f.1) both)

-- One step of reading digits at a place.
pub digits_end_at : (n i : ℕ) (s : List ℕ) → i < length s → (48 ≤ get_or s i 0 → get_or s i 0 ≤ 57 → ⊥) → digits_from n (drop i s) ≡ Some (n, drop i s)
digits_end_at n i s h other =
    rw (drop-cons s i 0) (digits_end n (get_or s i 0 ∷ drop (suc i) s) (record { no_digit = other }))

pub digits_none_at : (n i : ℕ) (s : List ℕ) → i < length s → 48 ≤ get_or s i 0 → get_or s i 0 ≤ 57 → 2 ^ 32 ≤ n * 10 + (get_or s i 0 - 48)
    → digits_from n (drop i s) ≡ None
unfolding digits_from
digits_none_at n i s h low high large = rw (
  drop-cons s i 0,
  le-ltb (get_or s i 0) 48 low,
  le-ltb 57 (get_or s i 0) high,
  le-ltb
      (n * 10 + (get_or s i 0 - 48)) (2 ^ 32) large,
) refl

pub digits_more_at : (n i : ℕ) (s : List ℕ) → i < length s → 48 ≤ get_or s i 0 → get_or s i 0 ≤ 57 → n * 10 + (get_or s i 0 - 48) < 2 ^ 32
    → digits_from n (drop i s) ≡ digits_from (n * 10 + (get_or s i 0 - 48)) (drop (i + 1) s)
unfolding digits_from
digits_more_at n i s h low high fits = rw (
  add-one,
  drop-cons s i 0,
  le-ltb (get_or s i 0) 48 low,
  le-ltb 57 (get_or s i 0) high,
  lt-ltb
      (n * 10 + (get_or s i 0 - 48)) (2 ^ 32) fits,
) refl

pub digits_all_at : (n i : ℕ) (s : List ℕ) → length s ≤ i → digits_from n (drop i s) ≡ Some (n, [])
unfolding digits_from
digits_all_at n i s h = rw (drop_all i s h) refl
