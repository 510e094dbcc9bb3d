-- Bits of places, each by a test of all 65.
use Rattle.std.proofs.Common.{◌≡◌, ℕ, ◌+◌, ◌<◌, ◌==◌, Bool, true, ◌&&◌, ◌||◌, ℤ, pos, negsuc, ◌≤ℤ◌, arith, refl, ◌-ℤ◌, nat_abs, int_lt, bit_and, to_z, of_z}
use Rattle.std.proofs.Common.{int_le, not, if◌then◌else◌, false}
use Rattle.std.proofs.lemmas.Bool.{and_parts, eqb-true}
use Rattle.std.proofs.lemmas.Int.{ints}
use Rattle.std.specs.Int.{int_bit_and, int_bit_or, int_shr}
use mir.Syntax.{w16}
use Rattle.base64_alphabet.specs.Table.{holds_below, IsPlace}
use Rattle.base64_alphabet.specs.Passes.{same_ℤ}
use Rattle.base64_alphabet.specs.Group.{sextet}
use Rattle.base64_alphabet.proofs.PassesLemmas.{holds_below_at, same_ℤ_is}

-- the place with number i, where 0 is -1
abbrev nth : ℕ → ℤ
nth i = pos i -ℤ pos 1

abbrev six_test : ℕ → Bool
six_test i = nat_abs (int_bit_and w16 (nth i) (pos 63)) == sextet (nth i)

six_all : holds_below six_test 65 ≡ true
unfolding holds_below
six_all = refl

is_nth : (z : ℤ) → IsPlace z → (i : ℕ) × (i < 65) × (z ≡ nth i)
is_nth (pos n) h = (n + 1, omega (arith, ints), omega (arith, ints))
is_nth (negsuc n) h = (0, omega (arith, ints), omega (arith, ints))

pub six_is : (z : ℤ) → IsPlace z → nat_abs (to_z w16 (bit_and (of_z w16 z) 63)) ≡ sextet z
six_is z h =
    let p = is_nth z h in
    rw p.2 (eqb-true _ _ (holds_below_at six_test 65 p.0 six_all p.1))

abbrev same_bool : Bool → Bool → Bool
same_bool true y = y
same_bool false y = not y

same_bool_is : (x y : Bool) → same_bool x y ≡ true → x ≡ y
same_bool_is true true h = refl
same_bool_is true false h = cc
same_bool_is false true h = cc
same_bool_is false false h = refl

-- the bits of either
abbrev or_is_place : ℕ → ℕ → Bool
or_is_place i j = int_le (negsuc 0) (int_bit_or w16 (nth i) (nth j)) && int_le (int_bit_or w16 (nth i) (nth j)) (pos 63)

abbrev or_is_bad : ℕ → ℕ → Bool
or_is_bad i j = same_bool (int_lt (int_bit_or w16 (nth i) (nth j)) (pos 0)) (int_lt (nth i) (pos 0) || int_lt (nth j) (pos 0))

abbrev or_test : ℕ → ℕ → Bool
or_test i j = or_is_place i j && or_is_bad i j

abbrev or_row : ℕ → Bool
or_row i = holds_below (or_test i) 65

or_all : holds_below or_row 65 ≡ true
unfolding holds_below
or_all = refl

or_at : (i j : ℕ) → i < 65 → j < 65 → or_test i j ≡ true
or_at i j p q = holds_below_at (or_test i) 65 j (holds_below_at or_row 65 i or_all p) q

le_z_from : (x y : ℤ) → int_le x y ≡ true → x ≤ℤ y
le_z_from x y h = grind (arith, ints)

place_from_test : (z : ℤ) → (int_le (negsuc 0) z && int_le z (pos 63)) ≡ true → IsPlace z
place_from_test z h =
    let p = and_parts (int_le (negsuc 0) z) (int_le z (pos 63)) h in
    (le_z_from _ _ p.0, le_z_from _ _ p.1)

pub or_place : (x y : ℤ) → IsPlace x → IsPlace y → IsPlace (int_bit_or w16 x y)
or_place x y h k =
    let p = is_nth x h in
    let q = is_nth y k in
    rw (p.2, q.2) (place_from_test _ (and_parts (or_is_place p.0 q.0) (or_is_bad p.0 q.0) (or_at p.0 q.0 p.1 q.1)).0)

pub or_bad : (x y : ℤ) → IsPlace x → IsPlace y → int_lt (int_bit_or w16 x y) (pos 0) ≡ (int_lt x (pos 0) || int_lt y (pos 0))
or_bad x y h k =
    let p = is_nth x h in
    let q = is_nth y k in
    rw (p.2, q.2) (same_bool_is _ _ (and_parts (or_is_place p.0 q.0) (or_is_bad p.0 q.0) (or_at p.0 q.0 p.1 q.1)).1)

-- the sign of a place as a number
abbrev sign_test : ℕ → Bool
sign_test i = same_ℤ (int_bit_and w16 (int_shr (nth i) 8) (pos 1)) (if int_lt (nth i) (pos 0) then pos 1 else pos 0)

sign_all : holds_below sign_test 65 ≡ true
unfolding holds_below
sign_all = refl

pub sign_is : (z : ℤ) → IsPlace z → int_bit_and w16 (int_shr z 8) (pos 1) ≡ (if int_lt z (pos 0) then pos 1 else pos 0)
sign_is z h =
    let p = is_nth z h in
    rw p.2 (same_ℤ_is _ _ (holds_below_at sign_test 65 p.0 sign_all p.1))
