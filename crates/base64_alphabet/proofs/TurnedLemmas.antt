-- The passes of encoding, lane by lane.
use Rattle.std.proofs.Common.{◌≡◌, ℕ, zero, suc, ◌+◌, ◌-◌, ◌/◌, ◌%◌, ◌<◌, ◌≤◌, Bool, true, false, ltb, nat_lt, List, [], ◌∷◌, length, map, replicate, take}
use Rattle.std.proofs.Common.{get_or, slice_index, arith, refl, ap, sym, ◌∙◌, if◌then◌else◌, ℤ, pos, negsuc, ◌+ℤ◌, ◌-ℤ◌, ◌≤ℤ◌, inl, inr}
use Rattle.std.proofs.lemmas.Bool.{and_parts, cases_Bool, ltb-true, ltb-false}
use Rattle.std.proofs.lemmas.Int.{ints}
use Rattle.std.proofs.lemmas.List.{take_all}
use Rattle.std.proofs.lemmas.Simd.{zip2_splat}
use Rattle.std.specs.Int.{int_bit_and, int_shr}
use Rattle.std.specs.Simd.Lanes.{zip2, all_below}
use lib.Lanes.{sel_l, top}
use mir.Syntax.{w16}
use Rattle.base64_alphabet.specs.Passes.{turned_by, turned_from, reads_place, read_places, encodes}
use Rattle.base64_alphabet.specs.Table.{is_ascii}
use Rattle.base64_alphabet.specs.Lanes.{low_byte}
use Rattle.base64_alphabet.specs.declared.alphabet.EncodeStep.{EncodeStep}
use Rattle.base64_alphabet.specs.declared.alphabet.EncodeStep.TheVariants.{Apply, Diff}
use Rattle.base64_alphabet.proofs.AddedLemmas.{masked}
use Rattle.base64_alphabet.proofs.LanesLemmas.{mask_of, next_lanes}
use Rattle.base64_alphabet.proofs.PassesLemmas.{turned_at}
use Rattle.base64_alphabet.proofs.TableLemmas.{ascii_at}

-- the sign of the difference
above : (t s : ℕ) → t < 256 → s < 64 → int_shr (pos t -ℤ pos s) 8 ≡ (if nat_lt t s then negsuc 0 else pos 0)
above t s lt ls = elim (cases_Bool (nat_lt t s)) [
  | inl e ↦ (let l : t < s = ltb-true t s e in let d : pos t -ℤ pos s ≡ negsuc (s - (t + 1)) = omega (arith, ints) in let z : (s - (t + 1)) / 256 ≡ 0 =
      omega arith in rw (e, d) (ap negsuc z))
  | inr e ↦ (let l : s ≤ t = ltb-false t s e in let d : pos t -ℤ pos s ≡ pos (t - s) = omega (arith, ints) in let z : (t - s) / 256 ≡ 0 = omega arith in
      rw (e, d) (ap pos z))
]

added_above : (t s : ℕ) (k : ℤ) → t < 256 → s < 64 → negsuc 32767 ≤ℤ k → k ≤ℤ pos 32767
    → (if nat_lt t s then low_byte k else 0) ≡ low_byte (turned_by (Diff t k) (pos 0) (pos s))
added_above t s k lt ls lo hi = sym (ap (λ b. low_byte (int_bit_and w16 b k)) (above t s lt ls) ∙ masked (nat_lt t s) k lo (omega (arith, ints)))

chosen : (p : Bool) (y s : ℕ) → (if top 7 (mask_of p) then y else s) ≡ (if p then y else s)
chosen true y s = refl
chosen false y s = refl

pub above_lanes : (n t : ℕ) (k : ℤ) (places : List ℕ) → t < 256 → negsuc 32767 ≤ℤ k → k ≤ℤ pos 32767 → length places ≡ n → all_below 64 places ≡ true
    → sel_l (map (top 7) (zip2 (λ x y. mask_of (ltb x y)) (replicate n t) places)) (replicate n (low_byte k)) (replicate n 0)
    ≡ map (λ s. low_byte (turned_by (Diff t k) (pos 0) (pos s))) places
above_lanes zero t k [] lt lo hi e h = refl
above_lanes zero t k (s ∷ places) lt lo hi e h = absurd (omega arith)
above_lanes (suc n) t k [] lt lo hi e h = absurd (omega arith)
above_lanes (suc n) t k (s ∷ places) lt lo hi e h =
    let p = and_parts (ltb s 64) (all_below 64 places) h in
    (λ i. (chosen (ltb t s) (low_byte k) 0 ∙ added_above t s k lt (ltb-true s 64 p.0) lo hi) i ∷ above_lanes n t k places lt lo hi (omega arith) p.1 i)

-- ---- the test of the passes

pub read_at : (steps : List EncodeStep) (i : ℕ) (e : EncodeStep) → i < length steps → read_places steps ≡ true → reads_place (get_or steps i e) ≡ true
read_at [] i e lt h = absurd (omega arith)
read_at (s ∷ steps) zero e lt h = (and_parts (reads_place s) (read_places steps) h).0
read_at (s ∷ steps) (suc i) e lt h = read_at steps i e (omega arith) (and_parts (reads_place s) (read_places steps) h).1

-- ---- the loop over the passes

turned_from-next : (d : ℤ) (steps : List EncodeStep) (i : ℕ) (e : EncodeStep) (s : ℤ) → i < length steps → read_places steps ≡ true
    → turned_from d (take (suc i) steps) s ≡ turned_from d (take i steps) s +ℤ turned_by (get_or steps i e) (pos 0) s
turned_from-next d [] i e s lt h = absurd (omega arith)
turned_from-next d (Diff t k ∷ steps) zero e s lt h = refl
turned_from-next d (Apply t k ∷ steps) zero e s lt h = cc
turned_from-next d (x ∷ steps) (suc i) e s lt h = turned_from-next (d +ℤ turned_by x d s) steps i e s (omega arith)
    (and_parts (reads_place x) (read_places steps) h).1

pub turn_step : (base : ℕ) (steps : List EncodeStep) (i : ℕ) (e : EncodeStep) (places sum added : List ℕ) → i < length steps → read_places steps ≡ true
    → sum ≡ map (λ s. low_byte (turned_from (pos s +ℤ pos base) (take i steps) (pos s))) places
    → added ≡ map (λ s. low_byte (turned_by (get_or steps i e) (pos 0) (pos s))) places
    → zip2 (λ a b. (a + b) % 256) sum added ≡ map (λ s. low_byte (turned_from (pos s +ℤ pos base) (take (i + 1) steps) (pos s))) places
turn_step base steps i e places sum added lt h is more =
    let one : suc i ≡ i + 1 = omega arith in
    (λ j. zip2 (λ a b. (a + b) % 256) (is j) (more j))
    ∙ next_lanes (λ s. turned_from (pos s +ℤ pos base) (take i steps) (pos s)) (λ s. turned_by (get_or steps i e) (pos 0) (pos s))
    (λ s. turned_from (pos s +ℤ pos base) (take (suc i) steps) (pos s))
    (λ s. turned_from-next (pos s +ℤ pos base) steps i e (pos s) lt h) places
    ∙ ap (λ k. map (λ s. low_byte (turned_from (pos s +ℤ pos base) (take k steps) (pos s))) places) one

pub first_turned : (base n : ℕ) (places : List ℕ) → length places ≡ n
    → zip2 (λ a b. (a + b) % 256) places (replicate n base) ≡ map (λ s. low_byte (pos s +ℤ pos base)) places
first_turned base n places e = zip2_splat (λ a b. (a + b) % 256) places n base e

turns_end : (base : ℕ) (steps : List EncodeStep) (table places : List ℕ) → encodes base steps table ≡ true → is_ascii table ≡ true → all_below 64 places ≡ true
    → map (λ s. low_byte (turned_from (pos s +ℤ pos base) steps (pos s))) places ≡ map (slice_index table) places
turns_end base steps table [] h ascii below = refl
turns_end base steps table (s ∷ places) h ascii below =
    let p = and_parts (ltb s 64) (all_below 64 places) below in
    let ls : s < 64 = ltb-true s 64 p.0 in
    let char : slice_index table s < 128 = ascii_at table ascii s in
    let small : slice_index table s % 256 ≡ slice_index table s = omega arith in
    (λ i. (ap low_byte (turned_at base steps table (pos s) h (omega (arith, ints)) (omega (arith, ints))) ∙ small) i
    ∷ turns_end base steps table places h ascii p.1 i)

pub turned_end_lanes : (base : ℕ) (items steps : List EncodeStep) (i : ℕ) (table places sum : List ℕ) → items ≡ steps → length items ≤ i
    → encodes base steps table ≡ true → is_ascii table ≡ true → all_below 64 places ≡ true
    → sum ≡ map (λ s. low_byte (turned_from (pos s +ℤ pos base) (take i items) (pos s))) places → sum ≡ map (slice_index table) places
turned_end_lanes base items steps i table places sum same past h ascii below is =
    is ∙ ap (λ e. map (λ s. low_byte (turned_from (pos s +ℤ pos base) e (pos s))) places) (take_all i items past ∙ same)
    ∙ turns_end base steps table places h ascii below
