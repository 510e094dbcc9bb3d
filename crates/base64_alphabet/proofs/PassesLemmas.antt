-- What the tests of specs/Passes.antt tell.
use Rattle.std.proofs.Common.{◌≡◌, ℕ, zero, suc, ◌+◌, ◌<◌, Bool, true, ◌&&◌, List, ◌∷◌, ℤ, pos, negsuc, length, drop, get_or, arith, inl, inr, ◌+ℤ◌}
use Rattle.std.proofs.Common.{FitsSigned, drop-cons, add-one, ◌≤ℤ◌, ◌≤◌, unsigned_abs, slice_index}
use Rattle.std.proofs.lemmas.Bool.{and_parts, cases_lt}
use Rattle.std.proofs.lemmas.Int.{ints}
use Rattle.std.proofs.lemmas.List.{drop_all}
use mir.Syntax.{w16}
use Rattle.base64_alphabet.specs.Table.{holds_below, place_of}
use Rattle.base64_alphabet.specs.Passes.{decodes, decodes_at, sums_fit, sum_from, same_ℤ, fits_16, value_fits, step_fits, added_by, encodes, encodes_at}
use Rattle.base64_alphabet.specs.Passes.{turns_fit, turned_from, turned_by, turned_fits}
use Rattle.base64_alphabet.specs.declared.alphabet.EncodeStep.{EncodeStep}
use Rattle.base64_alphabet.specs.declared.alphabet.DecodeStep.{DecodeStep}

pub holds_below_at : (p : ℕ → Bool) (n k : ℕ) → holds_below p n ≡ true → k < n → p k ≡ true
unfolding holds_below
holds_below_at p zero k h lt = absurd (omega arith)
holds_below_at p (suc n) k h lt =
    let parts = and_parts (p n) (holds_below p n) h in
    elim (cases_lt k n) [
      | inl below ↦ holds_below_at p n k parts.1 below
      | inr top ↦
          let e : k ≡ n = omega arith in
          rw e parts.0
    ]

pub same_ℤ_is : (x y : ℤ) → same_ℤ x y ≡ true → x ≡ y
same_ℤ_is x y h = grind (arith, ints)

fits_16_is : (z : ℤ) → fits_16 z ≡ true → FitsSigned w16 z
fits_16_is z h = grind (arith, ints)

-- no sum leaves i16, at a byte
pub fits_at : (steps : List DecodeStep) (table : List ℕ) (c : ℕ) → decodes steps table ≡ true → c < 256 → sums_fit (negsuc 0) steps c ≡ true
fits_at steps table c h lt = (and_parts (sums_fit (negsuc 0) steps c) (same_ℤ (sum_from (negsuc 0) steps c) (place_of table c))
    (holds_below_at (decodes_at steps table) 256 c h lt)).0

-- the sum is the place, at a byte
pub sum_at : (steps : List DecodeStep) (table : List ℕ) (c : ℕ) → decodes steps table ≡ true → c < 256 → sum_from (negsuc 0) steps c ≡ place_of table c
sum_at steps table c h lt = same_ℤ_is _ _ (and_parts (sums_fit (negsuc 0) steps c) (same_ℤ (sum_from (negsuc 0) steps c) (place_of table c))
    (holds_below_at (decodes_at steps table) 256 c h lt)).1

-- one step of the sum, where s is the first of the rest
pub value_fits_first : (d : ℤ) (s : DecodeStep) (rest : List DecodeStep) (c : ℕ) → sums_fit d (s ∷ rest) c ≡ true → value_fits s c ≡ true
value_fits_first d s rest c h = (and_parts _ _ ((and_parts (step_fits d s c) _ h).0)).0

pub sum_fits_first : (d : ℤ) (s : DecodeStep) (rest : List DecodeStep) (c : ℕ) → sums_fit d (s ∷ rest) c ≡ true → FitsSigned w16 (d +ℤ added_by s c)
sum_fits_first d s rest c h = fits_16_is _ ((and_parts (value_fits s c) _ ((and_parts (step_fits d s c) _ h).0)).1)

pub sums_fit_rest : (d : ℤ) (s : DecodeStep) (rest : List DecodeStep) (c : ℕ) → sums_fit d (s ∷ rest) c ≡ true → sums_fit (d +ℤ added_by s c) rest c ≡ true
sums_fit_rest d s rest c h = (and_parts (step_fits d s c) _ h).1

-- the step at place i of the sum
pub drop_step : (steps : List DecodeStep) (i : ℕ) (e : DecodeStep) → i < length steps → drop i steps ≡ get_or steps i e ∷ drop (i + 1) steps
drop_step steps i e lt = rw (add-one, drop-cons steps i e)

pub next_fits : (d : ℤ) (r : ℤ) (steps : List DecodeStep) (i : ℕ) (e : DecodeStep) (c : ℕ) → i < length steps → r ≡ added_by (get_or steps i e) c
    → sums_fit d (drop i steps) c ≡ true → FitsSigned w16 (d +ℤ r)
next_fits d r steps i e c lt is h = rw is (sum_fits_first d (get_or steps i e) (drop (i + 1) steps) c (rw (drop_step steps i e lt) at h))

pub rest_fits : (d d' r : ℤ) (steps : List DecodeStep) (i : ℕ) (e : DecodeStep) (c : ℕ) → i < length steps → r ≡ added_by (get_or steps i e) c
    → d' ≡ d +ℤ r → sums_fit d (drop i steps) c ≡ true → sums_fit d' (drop (i + 1) steps) c ≡ true
rest_fits d d' r steps i e c lt is more h = rw (more, is) (sums_fit_rest d (get_or steps i e) (drop (i + 1) steps) c (rw (drop_step steps i e lt) at h))

pub rest_sum : (d d' r : ℤ) (steps : List DecodeStep) (i : ℕ) (e : DecodeStep) (c : ℕ) (t : ℤ) → i < length steps → r ≡ added_by (get_or steps i e) c
    → d' ≡ d +ℤ r → sum_from d (drop i steps) c ≡ t → sum_from d' (drop (i + 1) steps) c ≡ t
rest_sum d d' r steps i e c t lt is more h = rw (more, is) (rw (drop_step steps i e lt) at h)

-- ---- encoding

pub turns_fit_at : (base : ℕ) (steps : List EncodeStep) (table : List ℕ) (s : ℤ) → encodes base steps table ≡ true → pos 0 ≤ℤ s → s ≤ℤ pos 63
    → turns_fit (s +ℤ pos base) steps s ≡ true
turns_fit_at base steps table (pos s) h low lt = (and_parts (turns_fit (pos s +ℤ pos base) steps (pos s))
    (same_ℤ (turned_from (pos s +ℤ pos base) steps (pos s)) (pos (slice_index table s)))
    (holds_below_at (encodes_at base steps table) 64 s h (omega (arith, ints)))).0
turns_fit_at base steps table (negsuc s) h low lt = absurd (omega (arith, ints))

pub turned_at : (base : ℕ) (steps : List EncodeStep) (table : List ℕ) (s : ℤ) → encodes base steps table ≡ true → pos 0 ≤ℤ s → s ≤ℤ pos 63
    → turned_from (s +ℤ pos base) steps s ≡ pos (slice_index table (unsigned_abs s))
turned_at base steps table (pos s) h low lt = same_ℤ_is _ _ (and_parts (turns_fit (pos s +ℤ pos base) steps (pos s))
    (same_ℤ (turned_from (pos s +ℤ pos base) steps (pos s)) (pos (slice_index table s)))
    (holds_below_at (encodes_at base steps table) 64 s h (omega (arith, ints)))).1
turned_at base steps table (negsuc s) h low lt = absurd (omega (arith, ints))

drop_turn : (steps : List EncodeStep) (i : ℕ) (e : EncodeStep) → i < length steps → drop i steps ≡ get_or steps i e ∷ drop (i + 1) steps
drop_turn steps i e lt = rw (add-one, drop-cons steps i e)

turn_parts : (d : ℤ) (e : EncodeStep) (rest : List EncodeStep) (s : ℤ) → turns_fit d (e ∷ rest) s ≡ true
    → (turned_fits e d s ≡ true) × (fits_16 (d +ℤ turned_by e d s) ≡ true) × (turns_fit (d +ℤ turned_by e d s) rest s ≡ true)
turn_parts d e rest s h =
    let p = and_parts (turned_fits e d s && fits_16 (d +ℤ turned_by e d s)) (turns_fit (d +ℤ turned_by e d s) rest s) h in
    let q = and_parts (turned_fits e d s) (fits_16 (d +ℤ turned_by e d s)) p.0 in
    (q.0, q.1, p.1)

pub turn_fits : (d : ℤ) (steps : List EncodeStep) (i : ℕ) (e : EncodeStep) (s : ℤ) → i < length steps
    → turns_fit d (drop i steps) s ≡ true → turned_fits (get_or steps i e) d s ≡ true
turn_fits d steps i e s lt h = (turn_parts d (get_or steps i e) (drop (i + 1) steps) s (rw (drop_turn steps i e lt) at h)).0

pub turn_sum_fits : (d r : ℤ) (steps : List EncodeStep) (i : ℕ) (e : EncodeStep) (s : ℤ) → i < length steps → r ≡ turned_by (get_or steps i e) d s
    → turns_fit d (drop i steps) s ≡ true → FitsSigned w16 (d +ℤ r)
turn_sum_fits d r steps i e s lt is h = rw is (fits_16_is _ (turn_parts d (get_or steps i e) (drop (i + 1) steps) s (rw (drop_turn steps i e lt) at h)).1)

pub turns_rest : (d d' r : ℤ) (steps : List EncodeStep) (i : ℕ) (e : EncodeStep) (s : ℤ) → i < length steps → r ≡ turned_by (get_or steps i e) d s
    → d' ≡ d +ℤ r → turns_fit d (drop i steps) s ≡ true → turns_fit d' (drop (i + 1) steps) s ≡ true
turns_rest d d' r steps i e s lt is more h = rw (more, is) (turn_parts d (get_or steps i e) (drop (i + 1) steps) s (rw (drop_turn steps i e lt) at h)).2

pub turned_rest : (d d' r : ℤ) (steps : List EncodeStep) (i : ℕ) (e : EncodeStep) (s t : ℤ) → i < length steps → r ≡ turned_by (get_or steps i e) d s
    → d' ≡ d +ℤ r → turned_from d (drop i steps) s ≡ t → turned_from d' (drop (i + 1) steps) s ≡ t
turned_rest d d' r steps i e s t lt is more h = rw (more, is) (rw (drop_turn steps i e lt) at h)

pub turned_end : (d : ℤ) (steps : List EncodeStep) (i : ℕ) (s t : ℤ) → length steps ≤ i → turned_from d (drop i steps) s ≡ t → d ≡ t
turned_end d steps i s t past h = rw (drop_all i steps past) at h

pub sum_end : (d : ℤ) (steps : List DecodeStep) (i : ℕ) (c : ℕ) (t : ℤ) → length steps ≤ i → sum_from d (drop i steps) c ≡ t → d ≡ t
sum_end d steps i c t past h = rw (drop_all i steps past) at h
