-- The two steps of a round keep the book's rule.
use Rattle.std.proofs.Common.{◌≡◌, ℕ, zero, suc, ◌+◌, ◌*◌, ◌<◌, ◌==◌, Bool, true, false, List, [], ◌∷◌, ◌++◌, length, slice_set, slice_index_or, refl, ap, sym}
use Rattle.std.proofs.Common.{◌∙◌, subst, arith, inl, length-append, Option}
use Rattle.std.proofs.lemmas.List.{append-nil}
use Rattle.std.proofs.lemmas.Bool.Decides.{nat_tests}
use mathlib.Core.List.{IsPrefix}
use prog.Atomic.{either}
use Rattle.logbook.specs.Pages.{Cell, cell, nib, may_make, may_write, no_nib, keeps, gives, adds, Away, step, Moves, Goes}
use Rattle.round_log.specs.Rounds.{cells_of, bit, IsKept, Begins, Adds}
use Rattle.round_log.proofs.Prefixes.{prefix_whole}

abbrev pub shown : {E : Type 0} → List E → List E
shown log = []

abbrev pub moved : {E : Type 0} → List E → List E → ℕ → Type 0
moved xs ys n = Unit {0}

cells_length : (c : ℕ) (b : Bool) → length (cells_of c b) ≡ c + 1 + bit b
cells_length zero true = refl
cells_length zero false = refl
cells_length (suc c) b = let h = cells_length c b in omega (arith, h)

cells_adds : (c : ℕ) → cells_of c false ++ (0, false) ∷ [] ≡ cells_of c true
cells_adds zero = refl
cells_adds (suc c) = ap (λ (z : List Cell). (0, true) ∷ z) (cells_adds c)

-- a cell that is not at home is the last one
cells_away : (c k : ℕ) (b : Bool) → k < length (cells_of c b) → (slice_index_or (cells_of c b) k (0, false)).1 ≡ false → (k ≡ c + 1) × (b ≡ true)
cells_away zero zero b lt e = absurd cc
cells_away zero (suc zero) true lt e = (refl, refl)
cells_away zero (suc zero) false lt e = absurd (omega arith)
cells_away zero (suc (suc k)) true lt e = absurd (omega arith)
cells_away zero (suc (suc k)) false lt e = absurd (omega arith)
cells_away (suc c) zero b lt e = absurd cc
cells_away (suc c) (suc k) b lt e = let h = cells_away c k b (omega arith) e in (let i : k ≡ c + 1 = h.0 in omega arith, h.1)

cells_gives : (c : ℕ) → slice_set (cells_of c true) (suc c) (0, true) ≡ cells_of (suc c) false
cells_gives zero = refl
cells_gives (suc c) = ap (λ (z : List Cell). (0, true) ∷ z) (cells_gives c)

begins_goes : {E : Type 0} (log v : List E) (e : E) (s : Option ℕ) (old r c : ℕ) (away : Bool) → length v ≡ old → old ≡ 2 * r → IsPrefix v log
    → length log ≡ 2 * c + bit away
    → (b : Bool) → (length log == old) ≡ b
    → Goes IsKept shown moved 0 (v, (no_nib, s)) (λ n. either (n == old) (old + 1) n) (Begins (step 0 old (old + 1) e) (v, (no_nib, s)))
    ((length log, true) ∷ cells_of c away) log
begins_goes log v e s old r c true len even pre count true is =
    let here : length log ≡ old = grind (arith, nat_tests) in absurd (omega (arith, here, even, count))
begins_goes log v e s old r c false len even pre count true is =
    let here : length log ≡ old = grind (arith, nat_tests) in
    let same : v ≡ log = prefix_whole v log pre (omega arith) in
    let rounds : c ≡ r = omega (arith, here, even, count) in
    let n : either (length log == old) (old + 1) (length log) ≡ length (log ++ e ∷ []) = rw is (omega (arith, length-append log (e ∷ []))) in (
      adds,
      e ∷ [],
      s,
      tt,
      record {
        rounds = c;
        away = true;
        cells_are = λ i. (n i, true) ∷ cells_adds c i;
        count = omega (arith, length-append log (e ∷ []), count);
      },
      inl (refl, refl),
      rw is (ap (λ w. w ++ e ∷ []) (sym same), (r, even, ap (λ k. nib may_make k 0) (omega (arith, cells_length c false, rounds)))),
    )
begins_goes log v e s old r c away len even pre count false is =
    let all : log ++ [] ≡ log = append-nil log in
    let n : either (length log == old) (old + 1) (length log) ≡ length (log ++ []) = rw is (ap length (sym all)) in (
      keeps,
      [],
      s,
      tt,
      record { rounds = c; away = away; cells_are = ap (λ (k : ℕ). (k, true) ∷ cells_of c away) n; count = ap length all ∙ count },
      inl (refl, refl),
      rw is tt,
    )

-- whatever the book is, the step begins a round, or finds that the log is longer
pub begins_moves : {E : Type 0} (v : List E) (e : E) (s : Option ℕ) (old r : ℕ) → length v ≡ old → old ≡ 2 * r
    → Moves IsKept shown moved 0 (v, (no_nib, s)) (λ n. either (n == old) (old + 1) n) (Begins (step 0 old (old + 1) e) (v, (no_nib, s)))
begins_moves v e s old r len even cs log kept pre away =
    let P : List Cell → Type 0 = λ c. (0 < length c) × ((cell c 0).1 ≡ true)
    × Goes IsKept shown moved 0 (v, (no_nib, s)) (λ n. either (n == old) (old + 1) n) (Begins (step 0 old (old + 1) e) (v, (no_nib, s))) c log in
    subst P (sym kept.cells_are) (omega arith, refl, begins_goes log v e s old r kept.rounds kept.away len even pre kept.count (length log == old) refl)

ends_goes : {E : Type 0} (log v : List E) (e : E) (s : Option ℕ) (old r : ℕ) → v ≡ log → length log ≡ old → old ≡ 2 * r + 1 → (length log == old) ≡ true
    → Goes IsKept shown moved 0 (v, (nib may_write (suc (suc r)) 0, s)) (λ n. either (n == old) (old + 1) n)
    (Adds (step 0 old (old + 1) e) (v, (nib may_write (suc (suc r)) 0, s))) ((length log, true) ∷ cells_of r true) log
ends_goes log v e s old r same len odd is =
    let n : either (length log == old) (old + 1) (length log) ≡ length (log ++ e ∷ []) = rw is (omega (arith, length-append log (e ∷ []))) in (
      gives,
      e ∷ [],
      s,
      refl,
      record {
        rounds = suc r;
        away = false;
        cells_are = λ i. (n i, true) ∷ cells_gives r i;
        count = omega (arith, length-append log (e ∷ []), len, odd);
      },
      inl (refl, refl),
      ap (λ w. w ++ e ∷ []) (sym same),
    )

-- with the pen of the round, nothing was added to the log since, and the step ends the round
pub ends_moves : {E : Type 0} (v : List E) (e : E) (s : Option ℕ) (old r : ℕ) → length v ≡ old → old ≡ 2 * r + 1
    → Moves IsKept shown moved 0 (v, (nib may_write (r + 2) 0, s)) (λ n. either (n == old) (old + 1) n)
    (Adds (step 0 old (old + 1) e) (v, (nib may_write (r + 2) 0, s)))
ends_moves v e s old r len odd =
    let key : r + 2 ≡ suc (suc r) = omega arith in
    let Q : ℕ → Type 0 = λ k. Moves IsKept shown moved 0 (v, (nib may_write k 0, s)) (λ n. either (n == old) (old + 1) n)
    (Adds (step 0 old (old + 1) e) (v, (nib may_write k 0, s))) in
    subst Q (sym key) (λ cs log kept pre away.
    let P : List Cell → Type 0 = λ c. (0 < length c) × ((cell c 0).1 ≡ true)
    × Goes IsKept shown moved 0 (v, (nib may_write (suc (suc r)) 0, s)) (λ n. either (n == old) (old + 1) n)
    (Adds (step 0 old (old + 1) e) (v, (nib may_write (suc (suc r)) 0, s))) c log in
    let R : List Cell → Type 0 = λ c. Away (nib may_write (suc (suc r)) 0) c in
    let out = subst R kept.cells_are away refl in
    let last = cells_away kept.rounds (suc r) kept.away (omega (arith, out.0)) out.1 in
    let rounds : kept.rounds ≡ r = omega (arith, last.0) in
    let on : bit kept.away ≡ 1 = ap bit last.1 in
    let long : length log ≡ old = omega (arith, kept.count, rounds, on, odd) in
    let same : v ≡ log = prefix_whole v log pre (omega (arith, long, len)) in
    let is : cs ≡ (length log, true) ∷ cells_of r true = kept.cells_are ∙ (λ i. (length log, true) ∷ cells_of (rounds i) (last.1 i)) in
    subst P (sym is) (omega arith, refl, ends_goes log v e s old r same long odd (grind (arith, nat_tests))))
