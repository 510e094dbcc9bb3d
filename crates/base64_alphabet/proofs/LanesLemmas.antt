-- Vectors of bytes, lane by lane.
use Rattle.std.proofs.Common.{◌≡◌, ℕ, zero, suc, ◌+◌, ◌*◌, ◌%◌, ◌^◌, ◌<◌, ◌≤◌, Bool, true, false, cond, leb, ltb, nat_le, nat_eq, ◌&&◌, List, [], ◌∷◌, length}
use Rattle.std.proofs.Common.{map, replicate, arith, refl, ap, sym, ◌∙◌, bit_and, if◌then◌else◌, slice_index, take, get_or, ℤ, pos, negsuc, ◌+ℤ◌, ◌≤ℤ◌, to_z}
use Rattle.std.proofs.Common.{inl, inr}
use Rattle.std.proofs.lemmas.Bool.{cases_Bool, ltb-true, ltb-false, lt-ltb, le-ltb, ne_eqb}
use Rattle.std.proofs.lemmas.Int.{ints}
use Rattle.std.proofs.lemmas.List.{take_all, length-map}
use Rattle.std.proofs.lemmas.Simd.{splat_is_map, length-zip2, mask_l-mod}
use Rattle.std.specs.Int.{int_bit_and}
use Rattle.std.specs.Simd.Lanes.{zip2, all_below, Each1}
use borrow.Rule.Simd.Lanes.{act1, act2}
use borrow.Table.Row.{s_int}
use lib.Lanes.{sel_l, top, mask_l}
use mir.Syntax.{w8, w16, cast, mask, lt as less, signed, unsigned}
use mir.Val.{Fits}
use Rattle.base64_alphabet.specs.Passes.{added_by, between, sum_from, decodes, same_ℤ}
use Rattle.base64_alphabet.specs.Table.{place_of, holds_below}
use Rattle.base64_alphabet.specs.Lanes.{low_byte, widened}
use Rattle.base64_alphabet.specs.declared.alphabet.DecodeStep.{DecodeStep}
use Rattle.base64_alphabet.specs.declared.alphabet.DecodeStep.TheVariants.{Range, Eq}
use Rattle.base64_alphabet.proofs.AddedLemmas.{added_between, low_add}
use Rattle.base64_alphabet.proofs.PassesLemmas.{sum_at, same_ℤ_is, holds_below_at}

-- all ones or 0
abbrev pub mask_of : Bool → ℕ
mask_of b = cond b 255 0

chosen : (p q : Bool) (y s : ℕ) → cond (top 7 (bit_and (mask_of p) (mask_of q))) y s ≡ (if p && q then y else s)
chosen true true y s = refl
chosen true false y s = refl
chosen false true y s = refl
chosen false false y s = refl

low_of_sum : (c : ℕ) (k : ℤ) → c < 256 → (c + low_byte k) % 256 ≡ low_byte (pos c +ℤ k)
low_of_sum c k lt =
    let e : c % 256 ≡ c = omega arith in
    sym (ap (λ x. (x + low_byte k) % 256) e) ∙ low_add (pos c) k

pub range_lanes : (n a z : ℕ) (k : ℤ) (cs : List ℕ) → a < 256 → z < 256 → negsuc 32767 ≤ℤ k → k ≤ℤ pos 32767 → length cs ≡ n
    → ((i : ℕ) → slice_index cs i < 256)
    → sel_l (map (top 7) (zip2 bit_and (zip2 (λ x y. mask_of (leb x y)) (replicate n a) cs) (zip2 (λ x y. mask_of (leb x y)) cs (replicate n z))))
    (zip2 (λ x y. (x + y) % 256) cs (replicate n (low_byte k))) (replicate n 0)
    ≡ map (λ x. low_byte (added_by (Range a z k) x)) cs
range_lanes zero a z k [] la lz lo hi e low = refl
range_lanes zero a z k (x ∷ cs) la lz lo hi e low = absurd (omega arith)
range_lanes (suc n) a z k [] la lz lo hi e low = absurd (omega arith)
range_lanes (suc n) a z k (x ∷ cs) la lz lo hi e low =
    let lt : x < 256 = low 0 in
    let one : (if nat_le a x && nat_le x z then (x + low_byte k) % 256 else 0) ≡ low_byte (int_bit_and w16 (between a z x) (pos x +ℤ k))
    = ap (λ y. if nat_le a x && nat_le x z then y else 0) (low_of_sum x k lt)
    ∙ sym (added_between a z x (pos x +ℤ k) la lz lt (omega (arith, ints)) (omega (arith, ints))) in
    (λ i. (chosen (leb a x) (leb x z) ((x + low_byte k) % 256) 0 ∙ one) i ∷ range_lanes n a z k cs la lz lo hi (omega arith) (λ j. low (suc j)) i)

pub value_lanes : (n v : ℕ) (k : ℤ) (cs : List ℕ) → v < 256 → negsuc 32767 ≤ℤ k → k ≤ℤ pos 32767 → length cs ≡ n → ((i : ℕ) → slice_index cs i < 256)
    → sel_l (map (top 7) (zip2 bit_and (zip2 (λ x y. mask_of (leb x y)) (replicate n v) cs) (zip2 (λ x y. mask_of (leb x y)) cs (replicate n v))))
    (replicate n (low_byte k)) (replicate n 0)
    ≡ map (λ x. low_byte (added_by (Eq v k) x)) cs
value_lanes zero v k [] lv lo hi e low = refl
value_lanes zero v k (x ∷ cs) lv lo hi e low = absurd (omega arith)
value_lanes (suc n) v k [] lv lo hi e low = absurd (omega arith)
value_lanes (suc n) v k (x ∷ cs) lv lo hi e low =
    let lt : x < 256 = low 0 in
    let one : (if nat_le v x && nat_le x v then low_byte k else 0) ≡ low_byte (int_bit_and w16 (between v v x) k) =
    sym (added_between v v x k lv lv lt lo (omega (arith, ints))) in
    (λ i. (chosen (leb v x) (leb x v) (low_byte k) 0 ∙ one) i ∷ value_lanes n v k cs lv lo hi (omega arith) (λ j. low (suc j)) i)

-- ---- the loop over the passes

sum_from-next : (d : ℤ) (steps : List DecodeStep) (i : ℕ) (e : DecodeStep) (x : ℕ) → i < length steps
    → sum_from d (take (suc i) steps) x ≡ sum_from d (take i steps) x +ℤ added_by (get_or steps i e) x
sum_from-next d [] i e x lt = absurd (omega arith)
sum_from-next d (s ∷ steps) zero e x lt = refl
sum_from-next d (s ∷ steps) (suc i) e x lt = sum_from-next (d +ℤ added_by s x) steps i e x (omega arith)

pub next_lanes : (f g h : ℕ → ℤ) → ((x : ℕ) → h x ≡ f x +ℤ g x) → (cs : List ℕ)
    → zip2 (λ a b. (a + b) % 256) (map (λ x. low_byte (f x)) cs) (map (λ x. low_byte (g x)) cs) ≡ map (λ x. low_byte (h x)) cs
next_lanes f g h is [] = refl
next_lanes f g h is (x ∷ cs) = (λ i. (low_add (f x) (g x) ∙ sym (ap low_byte (is x))) i ∷ next_lanes f g h is cs i)

-- what the passes so far add
pub pass_step : (steps : List DecodeStep) (i : ℕ) (e : DecodeStep) (cs sum added : List ℕ) → i < length steps
    → sum ≡ map (λ x. low_byte (sum_from (negsuc 0) (take i steps) x)) cs → added ≡ map (λ x. low_byte (added_by (get_or steps i e) x)) cs
    → zip2 (λ a b. (a + b) % 256) sum added ≡ map (λ x. low_byte (sum_from (negsuc 0) (take (i + 1) steps) x)) cs
pass_step steps i e cs sum added lt is more =
    let one : suc i ≡ i + 1 = omega arith in
    (λ j. zip2 (λ a b. (a + b) % 256) (is j) (more j))
    ∙ next_lanes (sum_from (negsuc 0) (take i steps)) (added_by (get_or steps i e)) (sum_from (negsuc 0) (take (suc i) steps))
    (λ x. sum_from-next (negsuc 0) steps i e x lt) cs
    ∙ ap (λ k. map (λ x. low_byte (sum_from (negsuc 0) (take k steps) x)) cs) one

places_end : (steps : List DecodeStep) (table cs : List ℕ) → decodes steps table ≡ true → ((k : ℕ) → slice_index cs k < 256)
    → map (λ x. low_byte (sum_from (negsuc 0) steps x)) cs ≡ map (λ x. low_byte (place_of table x)) cs
places_end steps table [] h low = refl
places_end steps table (x ∷ cs) h low = (λ i. low_byte (sum_at steps table x h (low 0) i) ∷ places_end steps table cs h (λ k. low (suc k)) i)

pub pass_end : (items steps : List DecodeStep) (i : ℕ) (table cs sum : List ℕ) → items ≡ steps → length items ≤ i → decodes steps table ≡ true
    → ((k : ℕ) → slice_index cs k < 256)
    → sum ≡ map (λ x. low_byte (sum_from (negsuc 0) (take i items) x)) cs → sum ≡ map (λ x. low_byte (place_of table x)) cs
pass_end items steps i table cs sum same past h low is =
    is ∙ ap (λ s. map (λ x. low_byte (sum_from (negsuc 0) s x)) cs) (take_all i items past ∙ same) ∙ places_end steps table cs h low

pub first_sum : (cs : List ℕ) → length cs ≡ 32 → replicate 32 255 ≡ map (λ x. low_byte (negsuc 0)) cs
first_sum cs e = splat_is_map cs 32 255 e

-- ---- places from their low bytes

twice_zero : (m : ℕ) → nat_eq (0 + 2 * m) 0 ≡ nat_eq m 0
twice_zero zero = refl
twice_zero (suc m) = ne_eqb (0 + 2 * suc m) 0 (omega arith) ∙ sym (ne_eqb (suc m) 0 (omega arith))

none_above : (n : ℕ) (cs : List ℕ) → length cs ≡ n
    → nat_eq (mask_l (map (top 7) (zip2 (λ x y. mask_of (ltb x y)) (replicate n 63) cs))) 0 ≡ all_below 64 cs
none_above zero [] e = refl
none_above zero (x ∷ cs) e = absurd (omega arith)
none_above (suc n) [] e = absurd (omega arith)
none_above (suc n) (x ∷ cs) e =
    let rest = mask_l (map (top 7) (zip2 (λ x y. mask_of (ltb x y)) (replicate n 63) cs)) in
    elim (cases_Bool (ltb 63 x)) [
      | inl above ↦ (let lt = ltb-true 63 x above in let f : ltb x 64 ≡ false = le-ltb x 64 (omega arith) in rw (above, f) (ne_eqb _ _ (omega arith)))
      | inr below ↦ (let le = ltb-false 63 x below in let f : ltb x 64 ≡ true = lt-ltb x 64 (omega arith) in
          rw (below, f) (twice_zero (mask_l (map (top 7) (zip2 (λ x y. mask_of (ltb x y)) (replicate n 63) cs))) ∙ none_above n cs (omega arith)))
    ]

pub all_places : (cs : List ℕ) → length cs ≡ 32
    → nat_eq (mask_l (map (top 7) (zip2 (λ x y. mask_of (ltb x y)) (replicate 32 63) cs)) % 2 ^ 64) 0 ≡ all_below 64 cs
all_places cs e =
    let len : length (map (top 7) (zip2 (λ x y. mask_of (ltb x y)) (replicate 32 63) cs)) ≤ 64 =
    omega (
      arith,
      length-map (zip2 (λ x y. mask_of (ltb x y)) (replicate 32 63) cs) (top 7),
      length-zip2 (λ (x : ℕ) (y : ℕ). mask_of (ltb x y))
          (replicate 32 63) cs (sym e),
    ) in
    ap (λ k. nat_eq k 0) (mask_l-mod (map (top 7) (zip2 (λ x y. mask_of (ltb x y)) (replicate 32 63) cs)) 64 len) ∙ none_above 32 cs e

-- the places of all low bytes
abbrev wide : ℕ → ℕ
wide = act1 (cast unsigned signed w16) (s_int w8) (s_int w16)

abbrev is_above : ℕ → ℕ → ℕ
is_above = act2 (mask (less signed)) (s_int w16) (s_int w16) (s_int w16)

abbrev wide_test : ℕ → Bool
wide_test x = same_ℤ (to_z w16 (cond (top 15 (is_above 63 (wide x))) 65535 (wide x))) (widened x)

wide_all : holds_below wide_test 256 ≡ true
unfolding holds_below
wide_all = refl

pub widened_lanes : (n : ℕ) (cs : List ℕ) → length cs ≡ n → Each1 (Fits w8) cs
    → map (to_z w16) (sel_l (map (top 15) (zip2 is_above (replicate n 63) (map wide cs))) (replicate n 65535) (map wide cs)) ≡ map widened cs
widened_lanes zero [] e fits = refl
widened_lanes zero (x ∷ cs) e fits = absurd (omega arith)
widened_lanes (suc n) [] e fits = absurd (omega arith)
widened_lanes (suc n) (x ∷ cs) e fits =
    let lt : x < 256 = fits.0.fits in
    (λ i. same_ℤ_is (to_z w16 (cond (top 15 (is_above 63 (wide x))) 65535 (wide x))) (widened x) (holds_below_at wide_test 256 x wide_all lt) i
    ∷ widened_lanes n cs (omega arith) fits.1 i)
