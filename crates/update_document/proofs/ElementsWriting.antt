-- What is written of a list, element by element.
use Rattle.std.proofs.Common.{◌≡◌, ℕ, ◌+◌, ◌<◌, ◌≤◌, ◌^◌, List, [], ◌∷◌, ◌++◌, length, take, drop, get_or, Option, Result, Ok, Err, IsErrAnd, sym, ap, ◌∙◌}
use Rattle.std.proofs.Common.{append-nil, arith}
use Rattle.std.specs.List.{flat_map}
use Rattle.std.proofs.lemmas.List.{take_more, take-append-drop}
use Rattle.std.proofs.lemmas.Grind.{flat_map-append}
use Rattle.std.proofs.lemmas.List.Folds.{length-flat_map-take}
use Rattle.der_core.specs.Encode.{Wrote, LengthOf}
use Rattle.der_core.specs.SequenceLaws.{front_fits}
use Rattle.der_core.specs.Writing.{wrote_behind, wrote_refused}
use Rattle.der_core.specs.declared.error.Error.{Error}

-- The front of a list and its next element take no more than the whole.
pub front_le : {X : Type 0} (f : X → List ℕ) (xs : List X) (i : ℕ) (x : X) → i < length xs → x ≡ get_or xs i x
    → length (flat_map f (take i xs)) + length (f x) ≤ length (flat_map f xs)
front_le f xs i x lt is =
    let le = length-flat_map-take f xs i x lt in
    let same : length (f x) ≡ length (f (get_or xs i x)) = ap (λ z. length (f z)) is in
    omega arith

pub flat_more : {X : Type 0} (f : X → List ℕ) (xs : List X) (i : ℕ) (x : X) → i < length xs → x ≡ get_or xs i x
    → flat_map f (take (i + 1) xs) ≡ flat_map f (take i xs) ++ f x
flat_more f xs i x lt is = ap (λ ys. flat_map f ys) (take_more xs i x lt)
    ∙ rw (← is) (flat_map-append f (take i xs) (x ∷ []) ∙ ap (λ (s : List ℕ). flat_map f (take i xs) ++ s) (append-nil (f x)))

-- An element that is too long makes the list too long.
pub element_too_long : (r : Result ℕ Error) (all item : List ℕ) (e : Error) → IsErrAnd r (λ y. y ≡ e) → LengthOf item (Err e) → length item ≤ length all
    → LengthOf all r
element_too_long (Ok n) all item e is long le = absurd is
element_too_long (Err y) all item e is long le = (is ∙ long.0, omega (arith, long.1))

-- An element that the writer refused, behind those that were written.
pub element_refused : {W X Y : Type 0} {HasTold : W → List ℕ → Type 0} {refusals : W → ℕ} {last_refusal : W → Option Error} {old mid new : W}
    {item : List ℕ} {e : Error} {r : Result X Error} (front rest all : List ℕ) → all ≡ front ++ item ++ rest
    → ((m : List ℕ) → HasTold old m → HasTold mid (m ++ front)) → refusals old ≤ refusals mid
    → Wrote {X = Y} HasTold refusals last_refusal mid new item (Err e) → r ≡ Err e → length all < 2 ^ 32 → Wrote HasTold refusals last_refusal old new all r
element_refused {Y = Y} {item = item} front rest all is first count w refused fits =
    let whole : length (front ++ item ++ rest) < 2 ^ 32 = rw (← is) fits in
    let some : length (front ++ item) < 2 ^ 32 = front_fits (front ++ item) rest whole in
    rw is (wrote_refused rest (wrote_behind {X = Y} front first count w some) refused whole)

-- What stands behind an element of a list.
pub behind_element : {X : Type 0} (f : X → List ℕ) (xs : List X) (i : ℕ) (x : X) → i < length xs → x ≡ get_or xs i x
    → flat_map f xs ≡ flat_map f (take i xs) ++ f x ++ flat_map f (drop (i + 1) xs)
behind_element f xs i x lt is =
    ap (λ ys. flat_map f ys) (sym (take-append-drop (i + 1) xs)) ∙ flat_map-append f (take (i + 1) xs) (drop (i + 1) xs)
    ∙ ap (λ (s : List ℕ). s ++ flat_map f (drop (i + 1) xs)) (flat_more f xs i x lt is)
