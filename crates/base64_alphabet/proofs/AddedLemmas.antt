-- The low bytes of what the passes add.
use Rattle.std.proofs.Common.{◌≡◌, ℕ, suc, ◌+◌, ◌-◌, ◌/◌, ◌%◌, ◌<◌, ◌≤◌, Bool, true, false, ◌&&◌, ℤ, pos, negsuc, ◌+ℤ◌, ◌-ℤ◌, ◌≤ℤ◌, arith, refl, ap, ◌∙◌}
use Rattle.std.proofs.Common.{bit_and, to_z, nat_le, nat_lt, if◌then◌else◌, inl, inr}
use Rattle.std.proofs.lemmas.Bool.{cases_Bool, leb-true, leb-false, le-ltb}
use Rattle.std.proofs.lemmas.Grind.{numeral_and}
use Rattle.std.proofs.lemmas.Int.{ints}
use Rattle.std.proofs.lemmas.Nat.{and_shr, and_le_l, and_le_r}
use Rattle.std.specs.Int.{int_bit_and, int_shr}
use mir.Syntax.{w16}
use Rattle.base64_alphabet.specs.Passes.{between}
use Rattle.base64_alphabet.specs.Lanes.{low_byte}

pub low_add : (x y : ℤ) → (low_byte x + low_byte y) % 256 ≡ low_byte (x +ℤ y)
low_add (pos a) (pos b) = omega arith
low_add (negsuc a) (negsuc b) = omega arith
low_add (pos a) (negsuc b) = elim (cases_Bool (nat_le a b)) [
  | inl e ↦ (let le : a ≤ b = leb-true a b e in let s : pos a +ℤ negsuc b ≡ negsuc (b - a) = omega (arith, ints) in rw s (omega arith))
  | inr e ↦ (let lt : b < a = leb-false a b e in let s : pos a +ℤ negsuc b ≡ pos (a - (b + 1)) = omega (arith, ints) in rw s (omega arith))
]
low_add (negsuc a) (pos b) = elim (cases_Bool (nat_le b a)) [
  | inl e ↦ (let le : b ≤ a = leb-true b a e in let s : negsuc a +ℤ pos b ≡ negsuc (a - b) = omega (arith, ints) in rw s (omega arith))
  | inr e ↦ (let lt : a < b = leb-false b a e in let s : negsuc a +ℤ pos b ≡ pos (b - (a + 1)) = omega (arith, ints) in rw s (omega arith))
]

-- the sign that two differences have in common
not_negative : (n : ℕ) → n < 256 → int_shr (to_z w16 n) 8 ≡ pos 0
not_negative n lt =
    let e : to_z w16 n ≡ pos n = omega (arith, ints) in
    let z : n / 256 ≡ 0 = omega arith in
    rw e (ap pos z)

high_to_z : (n : ℕ) → 32768 ≤ n → to_z w16 n ≡ negsuc (65536 - suc n)
high_to_z n le =
    let e : nat_lt n 32768 ≡ false = le-ltb n 32768 le in
    rw e refl

both_negative : (m n : ℕ) → m < 256 → n < 256 → int_shr (int_bit_and w16 (negsuc m) (negsuc n)) 8 ≡ negsuc 0
both_negative m n lm ln =
    let le = and_le_l (65536 - suc m) (65536 - suc n) in
    let hx : (65536 - suc m) / 256 ≡ 255 = omega arith in
    let hy : (65536 - suc n) / 256 ≡ 255 = omega arith in
    let q : bit_and (65536 - suc m) (65536 - suc n) / 256 ≡ 255 = and_shr (65536 - suc m) (65536 - suc n) 8 ∙ (λ i. bit_and (hx i) (hy i)) in
    let z : (65536 - suc (bit_and (65536 - suc m) (65536 - suc n))) / 256 ≡ 0 = omega arith in
    ap (λ v. int_shr v 8) (high_to_z (bit_and (65536 - suc m) (65536 - suc n)) (omega arith)) ∙ ap negsuc z

sign_shifted : (x y : ℤ) → negsuc 255 ≤ℤ x → x ≤ℤ pos 255 → negsuc 255 ≤ℤ y → y ≤ℤ pos 255 → (p q : Bool) → (p ≡ true → x ≤ℤ negsuc 0)
    → (p ≡ false → pos 0 ≤ℤ x) → (q ≡ true → y ≤ℤ negsuc 0) → (q ≡ false → pos 0 ≤ℤ y)
    → int_shr (int_bit_and w16 x y) 8 ≡ (if p && q then negsuc 0 else pos 0)
sign_shifted (pos m) y a b c d true q pt pf qt qf = absurd (let h = pt refl in omega (arith, ints))
sign_shifted (negsuc m) y a b c d false q pt pf qt qf = absurd (let h = pf refl in omega (arith, ints))
sign_shifted (negsuc m) (pos n) a b c d true true pt pf qt qf = absurd (let h = qt refl in omega (arith, ints))
sign_shifted (negsuc m) (negsuc n) a b c d true true pt pf qt qf = both_negative m n (omega (arith, ints)) (omega (arith, ints))
sign_shifted (negsuc m) (pos n) a b c d true false pt pf qt qf =
    (let le = and_le_r (65536 - suc m) n in not_negative (bit_and (65536 - suc m) n) (omega (arith, ints)))
sign_shifted (negsuc m) (negsuc n) a b c d true false pt pf qt qf = absurd (let h = qf refl in omega (arith, ints))
sign_shifted (pos m) (pos n) a b c d false q pt pf qt qf = (let le = and_le_l m n in not_negative (bit_and m n) (omega (arith, ints)))
sign_shifted (pos m) (negsuc n) a b c d false q pt pf qt qf =
    (let le = and_le_l m (65536 - suc n) in not_negative (bit_and m (65536 - suc n)) (omega (arith, ints)))

between_is : (a z c : ℕ) → a < 256 → z < 256 → c < 256 → between a z c ≡ (if nat_le a c && nat_le c z then negsuc 0 else pos 0)
between_is a z c la lz lc =
    sign_shifted ((pos a -ℤ pos 1) -ℤ pos c) (pos c -ℤ (pos z +ℤ pos 1)) (omega (arith, ints)) (omega (arith, ints)) (omega (arith, ints)) (omega (arith, ints))
    (nat_le a c) (nat_le c z)
    (λ e. let h : a ≤ c = leb-true a c e in omega (arith, ints)) (λ e. let h : c < a = leb-false a c e in omega (arith, ints))
    (λ e. let h : c ≤ z = leb-true c z e in omega (arith, ints)) (λ e. let h : z < c = leb-false c z e in omega (arith, ints))

low_to_z : (n : ℕ) → n < 65536 → low_byte (to_z w16 n) ≡ n % 256
low_to_z n lt = elim (cases_Bool (nat_le 32768 n)) [
  | inl e ↦ (let le : 32768 ≤ n = leb-true 32768 n e in ap low_byte (high_to_z n le) ∙ omega arith)
  | inr e ↦ (let lt : n < 32768 = leb-false 32768 n e in let s : to_z w16 n ≡ pos n = omega (arith, ints) in ap low_byte s)
]

-- all bits of a number, and none
low_all : (v : ℤ) → negsuc 32767 ≤ℤ v → v ≤ℤ pos 65535 → low_byte (int_bit_and w16 (negsuc 0) v) ≡ low_byte v
low_all (pos n) lo hi =
    let lt : n < 65536 = omega (arith, ints) in
    let b : bit_and 65535 n ≡ n = numeral_and 65534 n refl ∙ omega arith in
    ap (λ k. low_byte (to_z w16 k)) b ∙ low_to_z n lt
low_all (negsuc n) lo hi =
    let lt : n < 32768 = omega (arith, ints) in
    let b : bit_and 65535 (65536 - suc n) ≡ 65536 - suc n = numeral_and 65534 (65536 - suc n) refl ∙ omega arith in
    ap (λ k. low_byte (to_z w16 k)) b ∙ low_to_z (65536 - suc n) (omega arith) ∙ omega arith

pub masked : (p : Bool) (v : ℤ) → negsuc 32767 ≤ℤ v → v ≤ℤ pos 65535
    → low_byte (int_bit_and w16 (if p then negsuc 0 else pos 0) v) ≡ (if p then low_byte v else 0)
masked true v lo hi = low_all v lo hi
masked false v lo hi = refl

-- what a pass adds to a lane
pub added_between : (a z c : ℕ) (v : ℤ) → a < 256 → z < 256 → c < 256 → negsuc 32767 ≤ℤ v → v ≤ℤ pos 65535
    → low_byte (int_bit_and w16 (between a z c) v) ≡ (if nat_le a c && nat_le c z then low_byte v else 0)
added_between a z c v la lz lc lo hi = ap (λ b. low_byte (int_bit_and w16 b v)) (between_is a z c la lz lc) ∙ masked (nat_le a c && nat_le c z) v lo hi
