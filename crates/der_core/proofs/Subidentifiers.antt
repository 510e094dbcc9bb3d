-- What is read from the spelling of a subidentifier, and what was read is that spelling.
use Rattle.std.proofs.Common.{◌≡◌, ℕ, ◌+◌, ◌*◌, ◌/◌, ◌%◌, ◌^◌, ◌<◌, ◌≤◌, List, [], ◌∷◌, ◌++◌, length, get_or, cond, ltb, Option, Some, None, refl, ap, sym}
use Rattle.std.proofs.Common.{◌∙◌, inl, inr, arith, add-one, append_assoc, drop, drop-cons, length-append}
use Rattle.std.proofs.lemmas.Bool.{lt-ltb, le-ltb, ltb-true, ltb-false, cases_lt}
use Rattle.std.proofs.lemmas.Option.{same_Some, none-some}
use Rattle.std.proofs.lemmas.List.{drop_all, nil_from_length}
use Rattle.der_core.specs.Oid.{high_bytes, subidentifier_bytes, numbers_from}
use Rattle.der_core.specs.LengthLaws.{branch, IsBytes, IsBytes_tail}

high_bytes_1 : (n : ℕ) → n < 128 → high_bytes n ≡ (128 + n) ∷ []
unfolding high_bytes
high_bytes_1 n s = rw (lt-ltb n 128 s) refl

high_bytes_2 : (n : ℕ) → 128 ≤ n → n < 16384 → high_bytes n ≡ (128 + n / 128) ∷ (128 + n % 128) ∷ []
unfolding high_bytes
high_bytes_2 n h s = rw (le-ltb n 128 h, lt-ltb n 16384 s) refl

high_bytes_3 : (n : ℕ) → 16384 ≤ n → n < 2097152 → high_bytes n ≡ (128 + n / 16384) ∷ (128 + n / 128 % 128) ∷ (128 + n % 128) ∷ []
unfolding high_bytes
high_bytes_3 n h s =
    let h1 : 128 ≤ n = omega arith in
    rw (le-ltb n 128 h1, le-ltb n 16384 h, lt-ltb n 2097152 s) refl

high_bytes_4 : (n : ℕ) → 2097152 ≤ n → high_bytes n ≡ (128 + n / 2097152) ∷ (128 + n / 16384 % 128) ∷ (128 + n / 128 % 128) ∷ (128 + n % 128) ∷ []
unfolding high_bytes
high_bytes_4 n h =
    let h1 : 128 ≤ n = omega arith in
    let h2 : 16384 ≤ n = omega arith in
    rw (le-ltb n 128 h1, le-ltb n 16384 h2, le-ltb n 2097152 h) refl

-- One more byte behind high bytes.
high_bytes_step : (m d : ℕ) → 1 ≤ m → m < 2097152 → d < 128 → high_bytes (m * 128 + d) ≡ high_bytes m ++ (128 + d) ∷ []
high_bytes_step m d low high small =
    let n : ℕ = m * 128 + d in
    let d1 : n / 128 ≡ m = omega arith in
    let d0 : n % 128 ≡ d = omega arith in
    elim (cases_lt m 128) [
      | inl s ↦
          let a : 128 ≤ n = omega arith in
          let b : n < 16384 = omega arith in
          rw (high_bytes_1 m s, high_bytes_2 n a b, d1, d0) refl
      | inr h1 ↦ elim (cases_lt m 16384) [
        | inl s ↦
            let a : 16384 ≤ n = omega arith in
            let b : n < 2097152 = omega arith in
            let d2 : n / 16384 ≡ m / 128 = omega arith in
            rw (high_bytes_2 m h1 s, high_bytes_3 n a b, d2, d1, d0) refl
        | inr h2 ↦
            let a : 2097152 ≤ n = omega arith in
            let d2 : n / 16384 ≡ m / 128 = omega arith in
            let d3 : n / 2097152 ≡ m / 16384 = omega arith in
            rw (high_bytes_3 m h2 high, high_bytes_4 n a, d3, d2, d1, d0) refl
      ]
    ]

subidentifier_small : (n : ℕ) → n < 128 → subidentifier_bytes n ≡ n ∷ []
unfolding subidentifier_bytes
subidentifier_small n s = rw (lt-ltb n 128 s) refl

subidentifier_large : (m d : ℕ) → 1 ≤ m → d < 128 → subidentifier_bytes (m * 128 + d) ≡ high_bytes m ++ d ∷ []
unfolding subidentifier_bytes
subidentifier_large m d low small =
    let n : ℕ = m * 128 + d in
    let h : 128 ≤ n = omega arith in
    let d1 : n / 128 ≡ m = omega arith in
    let d0 : n % 128 ≡ d = omega arith in
    rw (le-ltb n 128 h, d1, d0) refl

-- Reading one subidentifier, where `number` is what the bytes before began.
unfoldable pub read_from : ℕ → List ℕ → Option (ℕ × List ℕ)
read_from number [] = None
read_from number (byte ∷ rest) =
    cond (ltb (number * 128 + byte % 128) (2 ^ 32))
    (cond (ltb byte 128) (Some (number * 128 + byte % 128, rest)) (read_from (number * 128 + byte % 128) rest))
    None

read_high : (a d : ℕ) (rest : List ℕ) → d < 128 → a * 128 + d < 2 ^ 32 → read_from a ((128 + d) ∷ rest) ≡ read_from (a * 128 + d) rest
unfolding read_from
read_high a d rest small fits =
    let e : (128 + d) % 128 ≡ d = omega arith in
    let h : 128 ≤ 128 + d = omega arith in
    rw (e, lt-ltb (a * 128 + d) (2 ^ 32) fits, le-ltb (128 + d) 128 h) refl

read_low : (a d : ℕ) (rest : List ℕ) → d < 128 → a * 128 + d < 2 ^ 32 → read_from a (d ∷ rest) ≡ Some (a * 128 + d, rest)
unfolding read_from
read_low a d rest small fits =
    let e : d % 128 ≡ d = omega arith in
    rw (e, lt-ltb (a * 128 + d) (2 ^ 32) fits, lt-ltb d 128 small) refl

numbers_high : (a d : ℕ) (rest : List ℕ) → d < 128 → numbers_from a ((128 + d) ∷ rest) ≡ numbers_from (a * 128 + d) rest
unfolding numbers_from
numbers_high a d rest small =
    let e : (128 + d) % 128 ≡ d = omega arith in
    let h : 128 ≤ 128 + d = omega arith in
    rw (e, le-ltb (128 + d) 128 h) refl

numbers_low : (a d : ℕ) (rest : List ℕ) → d < 128 → numbers_from a (d ∷ rest) ≡ (a * 128 + d) ∷ numbers_from 0 rest
unfolding numbers_from
numbers_low a d rest small =
    let e : d % 128 ≡ d = omega arith in
    rw (e, lt-ltb d 128 small) refl

-- What high bytes are read as, by a reader of either kind.
high_read : {X : Type 0} (read : ℕ → List ℕ → X) → ((a d : ℕ) (rest : List ℕ) → d < 128 → a * 128 + d < 2 ^ 32
    → read a ((128 + d) ∷ rest) ≡ read (a * 128 + d) rest) → (m : ℕ) (rest : List ℕ) → m < 33554432 → read 0 (high_bytes m ++ rest) ≡ read m rest
high_read read step m rest fits =
    elim (cases_lt m 128) [
      | inl s ↦ rw (high_bytes_1 m s) (step 0 m rest s (omega arith) ∙ ap (λ (n : ℕ). read n rest) (omega arith))
      | inr h1 ↦ elim (cases_lt m 16384) [
        | inl s ↦
            let a : ℕ = m / 128 in
            let d0 : ℕ = m % 128 in
            rw (high_bytes_2 m h1 s) (
            step 0 a (((128 + d0) ∷ []) ++ rest) (omega arith) (omega arith)
            ∙ step (0 * 128 + a) d0 rest (omega arith) (omega arith)
            ∙ ap (λ (n : ℕ). read n rest) (omega arith))
        | inr h2 ↦ elim (cases_lt m 2097152) [
          | inl s ↦
              let a : ℕ = m / 16384 in
              let d1 : ℕ = m / 128 % 128 in
              let d0 : ℕ = m % 128 in
              rw (high_bytes_3 m h2 s) (
              step 0 a (((128 + d1) ∷ (128 + d0) ∷ []) ++ rest) (omega arith) (omega arith)
              ∙ step (0 * 128 + a) d1 (((128 + d0) ∷ []) ++ rest) (omega arith) (omega arith)
              ∙ step ((0 * 128 + a) * 128 + d1) d0 rest (omega arith) (omega arith)
              ∙ ap (λ (n : ℕ). read n rest) (omega arith))
          | inr h3 ↦
              let a : ℕ = m / 2097152 in
              let d2 : ℕ = m / 16384 % 128 in
              let d1 : ℕ = m / 128 % 128 in
              let d0 : ℕ = m % 128 in
              rw (high_bytes_4 m h3) (
              step 0 a (((128 + d2) ∷ (128 + d1) ∷ (128 + d0) ∷ []) ++ rest) (omega arith) (omega arith)
              ∙ step (0 * 128 + a) d2 (((128 + d1) ∷ (128 + d0) ∷ []) ++ rest) (omega arith) (omega arith)
              ∙ step ((0 * 128 + a) * 128 + d2) d1 (((128 + d0) ∷ []) ++ rest) (omega arith) (omega arith)
              ∙ step (((0 * 128 + a) * 128 + d2) * 128 + d1) d0 rest (omega arith) (omega arith)
              ∙ ap (λ (n : ℕ). read n rest) (omega arith))
        ]
      ]
    ]

-- A number from 128 on is its high part and its low seven bits.
split_number : (n : ℕ) → n ≡ (n / 128) * 128 + n % 128
split_number n = omega arith

-- What is read from a subidentifier's bytes, by a reader of either kind.
subidentifier_read : {X : Type 0} (read : ℕ → List ℕ → X) (answer : ℕ → List ℕ → X)
    → ((a d : ℕ) (rest : List ℕ) → d < 128 → a * 128 + d < 2 ^ 32 → read a ((128 + d) ∷ rest) ≡ read (a * 128 + d) rest)
    → ((a d : ℕ) (rest : List ℕ) → d < 128 → a * 128 + d < 2 ^ 32 → read a (d ∷ rest) ≡ answer (a * 128 + d) rest) → (n : ℕ) (rest : List ℕ) → n < 2 ^ 32
    → read 0 (subidentifier_bytes n ++ rest) ≡ answer n rest
subidentifier_read read answer step last n rest fits =
    elim (cases_lt n 128) [
      | inl s ↦ rw (subidentifier_small n s) (last 0 n rest s (omega arith) ∙ ap (λ (k : ℕ). answer k rest) (omega arith))
      | inr h ↦
          let m : ℕ = n / 128 in
          let d : ℕ = n % 128 in
          let one : 1 ≤ m = omega arith in
          let small : d < 128 = omega arith in
          let e : n ≡ m * 128 + d = split_number n in
          let bytes : subidentifier_bytes n ≡ high_bytes m ++ d ∷ [] = ap subidentifier_bytes e ∙ subidentifier_large m d one small in
          ap (λ (s : List ℕ). read 0 (s ++ rest)) bytes
          ∙ ap (λ (s : List ℕ). read 0 s) (append_assoc (high_bytes m) (d ∷ []) rest)
          ∙ high_read read step m (d ∷ rest) (omega arith)
          ∙ last m d rest small (omega arith)
          ∙ ap (λ (k : ℕ). answer k rest) (sym e)
    ]

pub read_from_again : (n : ℕ) (rest : List ℕ) → n < 2 ^ 32 → read_from 0 (subidentifier_bytes n ++ rest) ≡ Some (n, rest)
read_from_again n rest fits = subidentifier_read read_from (λ n rest. Some (n, rest)) read_high read_low n rest fits

pub numbers_again : (n : ℕ) (rest : List ℕ) → n < 2 ^ 32 → numbers_from 0 (subidentifier_bytes n ++ rest) ≡ n ∷ numbers_from 0 rest
numbers_again n rest fits =
    subidentifier_read numbers_from (λ n rest. n ∷ numbers_from 0 rest) (λ a d rest small _. numbers_high a d rest small)
    (λ a d rest small _. numbers_low a d rest small) n rest fits

-- A number too large for one more byte is read as none.
read_from_small : (a : ℕ) (s : List ℕ) (f : ℕ × List ℕ) → read_from a s ≡ Some f → a < 33554432
unfolding read_from
read_from_small a [] f e = cc
read_from_small a (b ∷ s) f e =
    branch (ltb (a * 128 + b % 128) (2 ^ 32)) _ _ _ e
    (λ h _. let g : a * 128 + b % 128 < 2 ^ 32 = ltb-true (a * 128 + b % 128) (2 ^ 32) h in omega arith)
    (λ _ h. cc)

-- What was read, after high bytes that stand for `a`.
found_from : (a : ℕ) (s : List ℕ) (f : ℕ × List ℕ) → IsBytes s → 1 ≤ a → read_from a s ≡ Some f → (high_bytes a ++ s ≡ subidentifier_bytes f.0 ++ f.1)
    × (f.0 < 2 ^ 32)
unfolding read_from IsBytes
found_from a [] f b low e = cc
found_from a (byte ∷ s) f b low e =
    let d : ℕ = byte % 128 in
    let small : d < 128 = omega arith in
    let within : byte < 256 = b 0 in
    branch (ltb (a * 128 + d) (2 ^ 32)) _ _ _ e
    (λ h e.
    let fits : a * 128 + d < 2 ^ 32 = ltb-true (a * 128 + d) (2 ^ 32) h in
    branch (ltb byte 128) _ _ _ e
    (λ h e.
    let low_byte : byte < 128 = ltb-true byte 128 h in
    let same : byte ≡ d = omega arith in
    rw (← same_Some _ f e) (
      ap (λ (x : ℕ). high_bytes a ++ x ∷ s) same ∙ sym (append_assoc (high_bytes a) (d ∷ []) s)
          ∙ ap (λ (x : List ℕ). x ++ s) (sym (subidentifier_large a d low small)),
      fits,
    ))
    (λ h e.
    let high_byte : 128 ≤ byte = ltb-false byte 128 h in
    let same : byte ≡ 128 + d = omega arith in
    let next : a * 128 + d < 33554432 = read_from_small (a * 128 + d) s f e in
    let more = found_from (a * 128 + d) s f (IsBytes_tail byte s b) (omega arith) e in (
      ap (λ (x : ℕ). high_bytes a ++ x ∷ s) same ∙ sym (append_assoc (high_bytes a) ((128 + d) ∷ []) s)
          ∙ ap (λ (x : List ℕ). x ++ s) (sym (high_bytes_step a d low (omega arith) small)) ∙ more.0,
      more.1,
    )))
    (λ _ h. cc)

-- What was read from bytes that begin with no 80.
pub read_from_found : (byte : ℕ) (s : List ℕ) (f : ℕ × List ℕ) → IsBytes (byte ∷ s) → (byte ≡ 128 → ⊥) → read_from 0 (byte ∷ s) ≡ Some f
    → (byte ∷ s ≡ subidentifier_bytes f.0 ++ f.1) × (f.0 < 2 ^ 32)
unfolding read_from IsBytes
read_from_found byte s f b not_zero e =
    let d : ℕ = byte % 128 in
    let within : byte < 256 = b 0 in
    let none : 0 * 128 + d ≡ d = omega arith in
    let e' = rw none at e in
    branch (ltb d (2 ^ 32)) _ _ _ e'
    (λ _ e.
    branch (ltb byte 128) _ _ _ e
    (λ h e.
    let low_byte : byte < 128 = ltb-true byte 128 h in
    let same : d ≡ byte = omega arith in
    rw (← same_Some _ f e, same, subidentifier_small byte low_byte) (refl, omega arith))
    (λ h e.
    let high_byte : 128 ≤ byte = ltb-false byte 128 h in
    let low : 1 ≤ d = omega arith in
    let small : d < 128 = omega arith in
    let same : 128 + d ≡ byte = omega arith in
    let more = found_from d s f (IsBytes_tail byte s b) low e in
    let front : high_bytes d ≡ byte ∷ [] = high_bytes_1 d small ∙ ap (λ (x : ℕ). x ∷ []) same in
    (ap (λ (x : List ℕ). x ++ s) (sym front) ∙ more.0, more.1)))
    (λ _ h. cc)

-- The first byte of a subidentifier.
high_bytes_head : (m : ℕ) (rest : List ℕ) → 1 ≤ m → get_or (high_bytes m ++ rest) 0 0 ≡ 128 → ⊥
high_bytes_head m rest low =
    elim (cases_lt m 128) [
      | inl s ↦ rw (high_bytes_1 m s) (λ e. omega arith)
      | inr h1 ↦ elim (cases_lt m 16384) [
        | inl s ↦ rw (high_bytes_2 m h1 s) (λ e. omega arith)
        | inr h2 ↦ elim (cases_lt m 2097152) [
          | inl s ↦ rw (high_bytes_3 m h2 s) (λ e. omega arith)
          | inr h3 ↦ rw (high_bytes_4 m h3) (λ e. omega arith)
        ]
      ]
    ]

pub subidentifier_head : (n : ℕ) (rest : List ℕ) → get_or (subidentifier_bytes n ++ rest) 0 0 ≡ 128 → ⊥
subidentifier_head n rest =
    elim (cases_lt n 128) [
      | inl s ↦ rw (subidentifier_small n s) (λ e. omega arith)
      | inr h ↦
          let one : 1 ≤ n / 128 = omega arith in
          let small : n % 128 < 128 = omega arith in
          let bytes : subidentifier_bytes n ++ rest ≡ high_bytes (n / 128) ++ (n % 128 ∷ rest) =
          ap (λ (k : ℕ). subidentifier_bytes k ++ rest) (split_number n)
          ∙ ap (λ (s : List ℕ). s ++ rest) (subidentifier_large (n / 128) (n % 128) one small) ∙ append_assoc (high_bytes (n / 128)) (n % 128 ∷ []) rest in
          rw bytes (high_bytes_head (n / 128) (n % 128 ∷ rest) one)
    ]

pub read_front : (s : List ℕ) (f : ℕ × List ℕ) → IsBytes s → (get_or s 0 0 ≡ 128 → ⊥) → read_from 0 s ≡ Some f → (s ≡ subidentifier_bytes f.0 ++ f.1)
    × (f.0 < 2 ^ 32)
unfolding read_from
read_front [] f b head e = cc
read_front (byte ∷ s) f b head e = read_from_found byte s f b head e

-- One step of the reader at a place.
pub read_none_at : (a i : ℕ) (s : List ℕ) → i < length s → 2 ^ 32 ≤ a * 128 + get_or s i 0 % 128 → read_from a (drop i s) ≡ None
unfolding read_from
read_none_at a i s h large = rw (drop-cons s i 0, le-ltb (a * 128 + get_or s i 0 % 128) (2 ^ 32) large) refl

pub read_some_at : (a i : ℕ) (s : List ℕ) → i < length s → a * 128 + get_or s i 0 % 128 < 2 ^ 32 → get_or s i 0 < 128
    → read_from a (drop i s) ≡ Some (a * 128 + get_or s i 0 % 128, drop (i + 1) s)
unfolding read_from
read_some_at a i s h fits low = rw (add-one, drop-cons s i 0, lt-ltb (a * 128 + get_or s i 0 % 128) (2 ^ 32) fits, lt-ltb (get_or s i 0) 128 low) refl

pub read_more_at : (a i : ℕ) (s : List ℕ) → i < length s → a * 128 + get_or s i 0 % 128 < 2 ^ 32 → 128 ≤ get_or s i 0
    → read_from a (drop i s) ≡ read_from (a * 128 + get_or s i 0 % 128) (drop (i + 1) s)
unfolding read_from
read_more_at a i s h fits high = rw (add-one, drop-cons s i 0, lt-ltb (a * 128 + get_or s i 0 % 128) (2 ^ 32) fits, le-ltb (get_or s i 0) 128 high) refl

pub read_end_at : (a i : ℕ) (s : List ℕ) → length s ≤ i → read_from a (drop i s) ≡ None
unfolding read_from
read_end_at a i s h = rw (drop_all i s h) refl

-- Where the reader finds none, no subidentifier stands at the front.
pub read_none : (s : List ℕ) → read_from 0 s ≡ None → (n : ℕ) (rest : List ℕ) → n < 2 ^ 32 → s ≡ subidentifier_bytes n ++ rest → ⊥
read_none s none n rest small e = none-some _ (sym none ∙ ap (λ (x : List ℕ). read_from 0 x) e ∙ read_from_again n rest small)

pub none_empty : (s : List ℕ) → length s ≡ 0 → (n : ℕ) (rest : List ℕ) → n < 2 ^ 32 → s ≡ subidentifier_bytes n ++ rest → ⊥
unfolding read_from
none_empty s h = read_none s (rw (nil_from_length s h) refl)

pub none_zero : (s : List ℕ) → get_or s 0 0 ≡ 128 → (n : ℕ) (rest : List ℕ) → n < 2 ^ 32 → s ≡ subidentifier_bytes n ++ rest → ⊥
none_zero s h n rest small e = subidentifier_head n rest (rw (← e) h)

pub some_bytes : (n : ℕ) → 0 < length (subidentifier_bytes n)
some_bytes n =
    elim (cases_lt n 128) [
      | inl s ↦ rw (subidentifier_small n s) (omega arith)
      | inr h ↦
          let one : 1 ≤ n / 128 = omega arith in
          let small : n % 128 < 128 = omega arith in
          rw (ap subidentifier_bytes (split_number n), subidentifier_large (n / 128) (n % 128) one small)
          (omega (arith, length-append (high_bytes (n / 128)) (n % 128 ∷ [])))
    ]

-- The bytes of a subidentifier, by their number.
high_of : (n : ℕ) → 128 ≤ n → subidentifier_bytes n ≡ high_bytes (n / 128) ++ n % 128 ∷ []
unfolding subidentifier_bytes
high_of n h = rw (le-ltb n 128 h) refl

pub spelling_1 : (n : ℕ) → n < 128 → subidentifier_bytes n ≡ n % 128 ∷ []
spelling_1 n s = subidentifier_small n s ∙ ap (λ (x : ℕ). x ∷ []) (omega arith)

pub spelling_2 : (n : ℕ) → 128 ≤ n → n < 16384 → subidentifier_bytes n ≡ (128 + n / 128 % 128) ∷ n % 128 ∷ []
spelling_2 n h s =
    let m : n / 128 < 128 = omega arith in
    let e : n / 128 ≡ n / 128 % 128 = omega arith in
    high_of n h ∙ ap (λ (x : List ℕ). x ++ n % 128 ∷ []) (high_bytes_1 (n / 128) m ∙ ap (λ (x : ℕ). (128 + x) ∷ []) e)

pub spelling_3 : (n : ℕ) → 16384 ≤ n → n < 2097152 → subidentifier_bytes n ≡ (128 + n / 16384 % 128) ∷ (128 + n / 128 % 128) ∷ n % 128 ∷ []
spelling_3 n h s =
    let a : 128 ≤ n = omega arith in
    let low : 128 ≤ n / 128 = omega arith in
    let high : n / 128 < 16384 = omega arith in
    let e : n / 128 / 128 ≡ n / 16384 % 128 = omega arith in
    high_of n a ∙ ap (λ (x : List ℕ). x ++ n % 128 ∷ []) (high_bytes_2 (n / 128) low high ∙ ap (λ (x : ℕ). (128 + x) ∷ (128 + n / 128 % 128) ∷ []) e)

pub spelling_4 : (n : ℕ) → 2097152 ≤ n → n < 268435456 → subidentifier_bytes n ≡ (128 + n / 2097152 % 128) ∷ (128 + n / 16384 % 128) ∷ (128 + n / 128 % 128)
    ∷ n % 128 ∷ []
spelling_4 n h s =
    let a : 128 ≤ n = omega arith in
    let low : 16384 ≤ n / 128 = omega arith in
    let high : n / 128 < 2097152 = omega arith in
    let e : n / 128 / 16384 ≡ n / 2097152 % 128 = omega arith in
    let f : n / 128 / 128 % 128 ≡ n / 16384 % 128 = omega arith in
    high_of n a ∙ ap (λ (x : List ℕ). x ++ n % 128 ∷ []) (high_bytes_3 (n / 128) low high
    ∙ ap (λ (x : ℕ). (128 + x) ∷ (128 + n / 128 / 128 % 128) ∷ (128 + n / 128 % 128) ∷ []) e
    ∙ ap (λ (x : ℕ). (128 + n / 2097152 % 128) ∷ (128 + x) ∷ (128 + n / 128 % 128) ∷ []) f)

pub spelling_5 : (n : ℕ) → 268435456 ≤ n → subidentifier_bytes n ≡ (128 + n / 268435456) ∷ (128 + n / 2097152 % 128) ∷ (128 + n / 16384 % 128)
    ∷ (128 + n / 128 % 128) ∷ n % 128 ∷ []
spelling_5 n h =
    let a : 128 ≤ n = omega arith in
    let low : 2097152 ≤ n / 128 = omega arith in
    let e : n / 128 / 2097152 ≡ n / 268435456 = omega arith in
    let f : n / 128 / 16384 % 128 ≡ n / 2097152 % 128 = omega arith in
    let g : n / 128 / 128 % 128 ≡ n / 16384 % 128 = omega arith in
    high_of n a ∙ ap (λ (x : List ℕ). x ++ n % 128 ∷ []) (high_bytes_4 (n / 128) low
    ∙ ap (λ (x : ℕ). (128 + x) ∷ (128 + n / 128 / 16384 % 128) ∷ (128 + n / 128 / 128 % 128) ∷ (128 + n / 128 % 128) ∷ []) e
    ∙ ap (λ (x : ℕ). (128 + n / 268435456) ∷ (128 + x) ∷ (128 + n / 128 / 128 % 128) ∷ (128 + n / 128 % 128) ∷ []) f
    ∙ ap (λ (x : ℕ). (128 + n / 268435456) ∷ (128 + n / 2097152 % 128) ∷ (128 + x) ∷ (128 + n / 128 % 128) ∷ []) g)
