-- Where the parts of a document that was written stand: each one ends some bytes before a value whose end is known.
use Rattle.std.proofs.Common.{◌≡◌, ℕ, ◌+◌, ◌-◌, List, [], ◌∷◌, ◌++◌, length, take, refl, sym, ap, ◌∙◌, append_assoc, length-append, arith}
use Rattle.std.proofs.lemmas.List.{take_at, drop_at}
use Rattle.std.specs.Prelude.{slice_range}
use Rattle.der_core.specs.Der.{encode, length_bytes}
use Rattle.der_core.specs.ValueLaws.{encode_parts}
use Rattle.identity_update.specs.Place.{FoundAt}
use Rattle.identity_update.specs.Places.{Ends}
use Rattle.identity_update.specs.declared.place.Place.{Place}

pub ends_self : (s : List ℕ) → Ends s s
ends_self s = record { front = []; is = refl }

-- what ends a content ends its value
pub ends_value : (tag : ℕ) (tail content : List ℕ) → Ends tail content → Ends tail (encode tag content)
ends_value tag tail content e =
    let header : List ℕ = tag ∷ length_bytes (length content) in
    record {
      front = header ++ e.front;
      is = encode_parts tag content ∙ ap (λ (x : List ℕ). header ++ x) e.is ∙ sym (append_assoc header e.front tail);
    }

-- what ends the second of two fields ends both
pub ends_second : (first tail second : List ℕ) → Ends tail second → Ends tail (first ++ second)
ends_second first tail second e = record {
  front = first ++ e.front;
  is = ap (λ (x : List ℕ). first ++ x) e.is ∙ sym (append_assoc first e.front tail);
}

-- what ends the first of two fields stands before the second
pub ends_first : (tail first second : List ℕ) → Ends tail first → Ends (tail ++ second) (first ++ second)
ends_first tail first second e = record { front = e.front; is = ap (λ (x : List ℕ). x ++ second) e.is ∙ append_assoc e.front tail second }

pub ends_cons : (x : ℕ) (s : List ℕ) → Ends s (x ∷ s)
ends_cons x s = record { front = x ∷ []; is = refl }

slice_middle : (front middle back : List ℕ) (start end : ℕ) → length front ≡ start → start + length middle ≡ end
    → slice_range (front ++ (middle ++ back)) start end ≡ middle
slice_middle front middle back start end s e =
    let n : length middle ≡ end - start = omega arith in
    ap (λ (x : List ℕ). take (end - start) x) (drop_at front (middle ++ back) start s) ∙ take_at middle back (end - start) n

-- a part that stands `after` bytes before the end of a value which ends at `end`
pub found_at : (document pre whole post middle back : List ℕ) (end : ℕ) (p : Place) → document ≡ pre ++ (whole ++ post) → length pre + length whole ≡ end
    → Ends (middle ++ back) whole
    → p.end + length back ≡ end → p.start + length middle ≡ p.end → FoundAt document p middle
found_at document pre whole post middle back end p is at e after before =
    let front : List ℕ = pre ++ e.front in
    let rest : List ℕ = back ++ post in
    let inner : whole ++ post ≡ e.front ++ (middle ++ rest) =
    ap (λ (x : List ℕ). x ++ post) e.is ∙ append_assoc e.front (middle ++ back) post ∙ ap (λ (x : List ℕ). e.front ++ x) (append_assoc middle back post) in
    let all : document ≡ front ++ (middle ++ rest) = is ∙ ap (λ (x : List ℕ). pre ++ x) inner ∙ sym (append_assoc pre e.front (middle ++ rest)) in
    let whole_length : length whole ≡ length e.front + (length middle + length back) =
    ap length e.is ∙ length-append e.front (middle ++ back) ∙ ap (λ (n : ℕ). length e.front + n) (length-append middle back) in
    let front_length : length front ≡ length pre + length e.front = length-append pre e.front in
    let start : length front ≡ p.start = omega arith in
    let total : length document ≡ length front + (length middle + length rest) =
    ap length all ∙ length-append front (middle ++ rest) ∙ ap (λ (n : ℕ). length front + n) (length-append middle rest) in
    record {
      within = record { order = omega arith; inside = omega arith };
      is = ap (λ (x : List ℕ). slice_range x p.start p.end) all ∙ slice_middle front middle rest p.start p.end start before;
    }
