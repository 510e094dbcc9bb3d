-- Products with powers of ten up to the cap, and quotients by them.
use Rattle.std.proofs.Common.{◌≡◌, ℕ, zero, suc, ◌+◌, ◌-◌, ◌*◌, ◌/◌, ◌%◌, ◌<◌, ◌≤◌, ◌^◌, min, eqb, Option, Some, option_map, sym, ap, ◌∙◌, arith, ◌⊎◌, inl, inr}
use Rattle.std.proofs.lemmas.Bool.{cases_lt}
use Rattle.std.proofs.lemmas.Nat.{pow-add, mod-mul-add, div-add-mod'}
use Rattle.std.proofs.Math.Nat.{pow-le-pow_right, one-le-pow, mul-mod_left, mul-div_cancel, mul-div-mul_right, mod-lt, mul-lt-mul_of_pos_right, mul_assoc}
use Rattle.std.proofs.Math.Nat.{add-mul}
use Rattle.std.proofs.lemmas.Bool.Decides.{nat_tests}
use Rattle.token_time.specs.Decimal.{capped}
use Rattle.token_time.specs.Nanoseconds.{whole_quotient}

pub power_pos : (k : ℕ) → 0 < 10 ^ k
power_pos k = let p : 1 ≤ 10 ^ k = one-le-pow k 10 (omega arith) in omega arith

-- one zero more
pub product_step : (value product next k : ℕ) → product ≡ capped (value * 10 ^ k) → next ≡ min (product * 10) 1000000000000000000000
    → next ≡ capped (value * 10 ^ (k + 1))
product_step value product next k is e =
    let s : 10 ^ (k + 1) ≡ 10 ^ k * 10 = pow-add 10 k 1 in
    let a : value * 10 ^ k * 10 ≡ value * (10 ^ k * 10) = mul_assoc value (10 ^ k) 10 in
    rw s (omega arith)

-- so many zeros behind a digit reach the cap
great : (n k : ℕ) → 21 ≤ k → capped (suc n * 10 ^ k) ≡ 1000000000000000000000
great n k h =
    let p : 10 ^ 21 ≤ 10 ^ k = pow-le-pow_right {n = 10} (omega arith) h in
    let s : 10 ^ k ≤ suc n * 10 ^ k = omega arith in
    omega arith

-- more zeros than reach the cap change nothing
pub product_zeros : (value k : ℕ) → capped (value * 10 ^ min k 21) ≡ capped (value * 10 ^ k)
product_zeros value k = by_size value (cases_lt k 21)
  where
    by_size : (v : ℕ) → (k < 21) ⊎ (21 ≤ k) → capped (v * 10 ^ min k 21) ≡ capped (v * 10 ^ k)
    by_size v (inl few) = let e : min k 21 ≡ k = omega arith in rw e
    by_size zero (inr many) = omega arith
    by_size (suc n) (inr many) = let e : min k 21 ≡ 21 = omega arith in rw e (great n 21 (omega arith) ∙ sym (great n k many))

-- a value that the cap cut stays cut
pub capped_times : (m k : ℕ) → capped (capped m * 10 ^ k) ≡ capped (m * 10 ^ k)
capped_times m k = by_size (cases_lt 1000000000000000000000 m)
  where
    by_size : (1000000000000000000000 < m) ⊎ (m ≤ 1000000000000000000000) → capped (capped m * 10 ^ k) ≡ capped (m * 10 ^ k)
    by_size (inr small) = let e : capped m ≡ m = omega arith in rw e
    by_size (inl big) =
        let e : capped m ≡ 1000000000000000000000 = omega arith in
        let p = power_pos k in
        let a : 1000000000000000000000 * 1 ≤ 1000000000000000000000 * 10 ^ k = omega arith in
        let b : 1000000000000000000000 * 10 ^ k ≤ m * 10 ^ k = omega (arith, mul-lt-mul_of_pos_right {m = 1000000000000000000000} {n = m} {k = 10 ^ k} big p) in
        rw e (omega arith)

power_split : (a b : ℕ) → a ≤ b → 10 ^ b ≡ 10 ^ (b - a) * 10 ^ a
power_split a b h = let e : b ≡ b - a + a = omega arith in ap (λ n. 10 ^ n) e ∙ pow-add 10 (b - a) a

-- where the number is multiplied by the greater power
pub quotient_up : (m up down : ℕ) → down ≤ up → whole_quotient m up down ≡ Some (m * 10 ^ (up - down))
unfolding whole_quotient
quotient_up m up down h =
    let s = power_split down up h in
    let a : m * 10 ^ up ≡ m * 10 ^ (up - down) * 10 ^ down = ap (λ p. m * p) s ∙ sym (mul_assoc m (10 ^ (up - down)) (10 ^ down)) in
    rw (a, mul-mod_left (m * 10 ^ (up - down)) (10 ^ down)) (ap Some (mul-div_cancel (m * 10 ^ (up - down)) {n = 10 ^ down} (power_pos down)))

rest_times : (m b c : ℕ) → 0 < b → 0 < c → m * c % (b * c) ≡ m % b * c
rest_times m b c pb pc =
    let parts : m / b * b + m % b ≡ m = div-add-mod' m b in
    let d : (m / b * b + m % b) * c ≡ m / b * b * c + m % b * c = add-mul (m / b * b) (m % b) c in
    let a : m / b * b * c ≡ m / b * (b * c) = mul_assoc (m / b) b c in
    let all : m * c ≡ m / b * (b * c) + m % b * c = cc in
    let below : m % b * c < b * c = mul-lt-mul_of_pos_right (mod-lt m pb) pc in
    rw all (mod-mul-add (m / b) (b * c) (m % b * c) below)

zero_times : (r c : ℕ) → 0 < c → eqb (r * c) 0 ≡ eqb r 0
zero_times r c p = by_rest r
  where
    by_rest : (r : ℕ) → eqb (r * c) 0 ≡ eqb r 0
    by_rest zero = let e : 0 * c ≡ 0 = omega arith in rw e
    by_rest (suc r) = let e : 0 < suc r * c = omega arith in grind (arith, nat_tests)

-- where it is divided by the greater power
pub quotient_down : (m up down : ℕ) → up < down → whole_quotient m up down ≡ whole_quotient m 0 (down - up)
unfolding whole_quotient
quotient_down m up down h =
    let s = power_split up down (omega arith) in
    let r = rest_times m (10 ^ (down - up)) (10 ^ up) (power_pos (down - up)) (power_pos up) in
    let z = zero_times (m % 10 ^ (down - up)) (10 ^ up) (power_pos up) in
    let q : m * 10 ^ up / (10 ^ (down - up) * 10 ^ up) ≡ m / 10 ^ (down - up) = mul-div-mul_right m (10 ^ (down - up)) (power_pos up) in
    let one : m * 10 ^ 0 ≡ m = omega arith in
    rw (s, r, z, q, one)

-- the same, for what a number says of the powers
pub answer_down : (r : Option ℕ) (m u l n u' l' : ℕ) → u ≡ u' → l ≡ l' → u + 9 < l + n → r ≡ option_map capped (whole_quotient m 0 (l + n - (u + 9)))
    → r ≡ option_map capped (whole_quotient m (u' + 9) (l' + n))
answer_down r m u l n u' l' eu el h e = rw (← eu, ← el, quotient_down m (u + 9) (l + n) h) e

pub answer_up : (p v m u l n u' l' : ℕ) → u ≡ u' → l ≡ l' → l + n ≤ u + 9 → v ≡ capped m → p ≡ capped (v * 10 ^ (u + 9 - (l + n)))
    → Some p ≡ option_map capped (whole_quotient m (u' + 9) (l' + n))
answer_up p v m u l n u' l' eu el h ev e =
    let all : p ≡ capped (m * 10 ^ (u + 9 - (l + n))) = rw (e, ev) (capped_times m (u + 9 - (l + n))) in
    rw (← eu, ← el, quotient_up m (u + 9) (l + n) h) (ap Some all)
