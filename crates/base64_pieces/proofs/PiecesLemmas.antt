-- Bytes that were decoded in pieces.
use Rattle.std.proofs.Common.{◌≡◌, ℕ, ◌+◌, ◌<◌, ◌≤◌, List, [], ◌∷◌, ◌++◌, length, take, drop, map, sum, arith, refl, ap, sym, ◌∙◌, ◌⊎◌, inl, inr, Option, Some}
use Rattle.std.proofs.Common.{None, Contains, append_assoc, length-append}
use Rattle.std.proofs.lemmas.List.{length-take-le, take-append-drop}
use Rattle.std.proofs.lemmas.List.Elements.{Contains-append_left}
use Rattle.base64_text.specs.declared.errors.Error.{Error}
use Rattle.base64_text.specs.declared.errors.Error.TheVariants.{InvalidEncoding, InvalidLength, OutOfMemory}
use Rattle.base64ct.specs.Items.{IsTakeError}
use Rattle.base64ct.proofs.DecoderLemmas.{length-map_some, none_bad}
use Rattle.base64ct.proofs.LeftLemmas.{bad_behind, bad_within, two_pieces}

-- bytes were decoded and appended, and those of some lengths are still to come
pub record IsDone (before left : List (Option ℕ)) (was now lengths : List ℕ) (total : ℕ) : Type 0 where
  pub done : List ℕ
  pub count : length done + sum lengths ≡ total
  pub items : before ≡ map Some done ++ left
  pub bytes : now ≡ was ++ done

-- a further piece
pub one_more : (before left next : List (Option ℕ)) (was now now' piece lengths rest : List ℕ) (n total : ℕ) → IsDone before left was now lengths total
    → left ≡ map Some piece ++ next → length piece ≡ n → sum lengths ≡ n + sum rest → now' ≡ now ++ piece → IsDone before next was now' rest total
one_more before left next was now now' piece lengths rest n total d items len split appended = record {
  done = d.done ++ piece;
  count = (let l = length-append d.done piece in let c = d.count in omega arith);
  items = two_pieces before left next d.done piece (d.done ++ piece) d.items items refl;
  bytes = appended ∙ ap (λ xs. xs ++ piece) d.bytes ∙ append_assoc was d.done piece;
}

-- why a further piece was not taken
pub stopped : (before left : List (Option ℕ)) (was now lengths : List ℕ) (total n rest : ℕ) (e : Error) → IsDone before left was now lengths total
    → sum lengths ≡ n + rest → IsTakeError left n e
    → ((e ≡ InvalidLength) × (length before < total)) ⊎ ((e ≡ InvalidEncoding) × Contains (take total before) None)
stopped before left was now lengths total n rest InvalidLength d split h =
    let l = ap length d.items in
    let a = length-append (map {A = ℕ} {B = Option ℕ} Some d.done) left in
    let m = length-map_some d.done in
    let c = d.count in
    inl (refl, omega arith)
stopped before left was now lengths total n rest InvalidEncoding d split h =
    let len : length (take n left) ≡ n = length-take-le n left h.0 in
    let bad = bad_within (take n left) (drop n left) (sum lengths) (omega arith) h.1 in
    inr (refl, bad_behind before left d.done (sum lengths) total d.items (sym d.count) (rw (take-append-drop n left) at bad))
stopped before left was now lengths total n rest OutOfMemory d split h = absurd h

-- bytes that are all there are not refused
pub not_stopped : (before : List (Option ℕ)) (b : List ℕ) (total : ℕ) (e : Error) → ((e ≡ InvalidLength) × (length before < total))
    ⊎ ((e ≡ InvalidEncoding) × Contains (take total before) None)
    → before ≡ map Some b → total ≤ length b → ⊥
not_stopped before b total e (inl h) is fits = let l = ap length is in let m = length-map_some b in let n = h.1 in omega arith
not_stopped before b total e (inr h) is fits =
    none_bad b (rw is at (rw (take-append-drop total before) at (Contains-append_left (take total before) (drop total before) None h.1)))

first_value : List (Option ℕ) → ℕ
first_value [] = 0
first_value (None ∷ xs) = 0
first_value (Some x ∷ xs) = x

-- the bytes that were decoded are the first ones
pub first_ones : (b done : List ℕ) (left : List (Option ℕ)) → map Some b ≡ map Some done ++ left → take (length done) b ≡ done
unfolding first_value
first_ones b [] left is = refl
first_ones [] (d ∷ ds) left is = let l = ap length is in absurd (omega arith)
first_ones (x ∷ xs) (d ∷ ds) left is = let h : x ≡ d = ap first_value is in rw (h, first_ones xs ds left (ap (drop 1) is)) refl

pub all_done : (before left : List (Option ℕ)) (was now lengths b : List ℕ) (total : ℕ) → IsDone before left was now lengths total → sum lengths ≡ 0
    → before ≡ map Some b → now ≡ was ++ take total b
all_done before left was now lengths b total d none is =
    let c = d.count in
    let e : total ≡ length d.done = omega arith in
    d.bytes ∙ ap (λ xs. was ++ xs) (rw e (sym (first_ones b d.done left (sym is ∙ d.items))))
