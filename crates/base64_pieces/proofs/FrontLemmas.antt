-- The text of a front is no longer than the whole text.
use Rattle.std.proofs.Common.{◌≡◌, ℕ, suc, ◌+◌, ◌*◌, ◌/◌, ◌%◌, ◌<◌, ◌≤◌, Bool, List, [], ◌++◌, length, take, drop, arith, refl, ap, sym, ◌∙◌, Option, Some}
use Rattle.std.proofs.Common.{None, append_assoc, inl, inr, length-append}
use Rattle.std.proofs.Math.ListN.{get_or}
use Rattle.std.proofs.Math.Seq.{drop-cons}
use Rattle.std.proofs.lemmas.Bool.{cases_lt}
use Rattle.std.specs.List.{flat_map}
use Rattle.std.proofs.lemmas.List.{length-take-le, take-append-drop}
use Rattle.base64_alphabet.proofs.Forms.{form}
use Rattle.base64_alphabet.specs.Encoding.{characters, encoding_of}
use Rattle.base64_alphabet.specs.Group.{End}
use Rattle.base64_text.proofs.WholeLemmas.{encoding_of-append}
use Rattle.base64ct.specs.Encoder.{in_lines, whole_groups}
use Rattle.base64ct.specs.LineWrapper.{advanced, in_lines_from}
use Rattle.base64ct.specs.declared.line_ending.LineEnding.{LineEnding}
use Rattle.base64ct.specs.declared.wrapping.LineWrapper.{LineWrapper}
use Rattle.base64ct.proofs.EncoderLemmas.{whole_encoding}
use Rattle.base64ct.proofs.WrittenLemmas.{advanced-lines, in_lines-append}
use Rattle.base64_pieces.specs.Pieces.{IsWideEnough}

-- a text's front in lines is no longer than the text
front_len : (lines : Option (ℕ × LineEnding)) (t u : List ℕ) → IsWideEnough lines → length (in_lines lines t) ≤ length (in_lines lines (t ++ u))
front_len None t u wide = omega (arith, length-append t u)
front_len (Some (width, ending)) t u wide =
    let start : LineWrapper = record { width = width; ending = ending; left = width } in
    let e = in_lines-append (advanced (Some start) t) t u (advanced-lines (Some start) [] t (wide, refl)) in
    let l = length-append (in_lines (Some (width, ending)) t) (in_lines_from (advanced (Some start) t) u) in
    rw e (omega (arith, l))

-- a front's whole groups
pub sooner : (end : End) (table : List ℕ) (padded : Bool) (lines : Option (ℕ × LineEnding)) (x y : List ℕ) → IsWideEnough lines
    → length (in_lines lines (encoding_of (form end table padded) (whole_groups x))) ≤ length (in_lines lines (encoding_of (form end table padded) (x ++ y)))
sooner end table padded lines x y wide =
    let n : ℕ = 3 * (length x / 3) in
    let len : length (take n x) ≡ n = length-take-le n x (omega arith) in
    let whole : length (take n x) % 3 ≡ 0 = omega arith in
    let split : x ++ y ≡ take n x ++ (drop n x ++ y) = ap (λ z. z ++ y) (sym (take-append-drop n x)) ∙ append_assoc (take n x) (drop n x) y in
    let front = whole_encoding end table padded (take n x) whole in
    let all = ap (encoding_of (form end table padded)) split ∙ encoding_of-append end table (take n x) (drop n x ++ y) padded whole in
    rw (front, all) (front_len lines (characters end table (take n x)) (encoding_of (form end table padded) (drop n x ++ y)) wide)

-- what a piece is refused for, all pieces are
pub refused_sooner : (end : End) (table : List ℕ) (padded : Bool) (lines : Option (ℕ × LineEnding)) (x y whole : List ℕ) (room : ℕ) → IsWideEnough lines
    → x ++ y ≡ whole
    → (length (in_lines lines (encoding_of (form end table padded) (whole_groups x))) ≤ room → ⊥)
    → room < length (in_lines lines (encoding_of (form end table padded) whole))
refused_sooner end table padded lines x y whole room wide is over =
    let l = sooner end table padded lines x y wide in
    rw (← is) (elim (cases_lt room (length (in_lines lines (encoding_of (form end table padded) (whole_groups x))))) [
      | inl lt ↦ omega arith
      | inr le ↦ absurd (over le)
    ])

-- a further piece
pub one_more : {X : Type 0} (f : X → List ℕ) (pieces : List X) (i : ℕ) (d : X) (taken all : List ℕ) → i < length pieces
    → taken ++ flat_map f (drop i pieces) ≡ all
    → (taken ++ f (get_or pieces i d)) ++ flat_map f (drop (i + 1) pieces) ≡ all
one_more f pieces i d taken all here is =
    let next : i + 1 ≡ suc i = omega arith in
    rw next (append_assoc taken (f (get_or pieces i d)) (flat_map f (drop (suc i) pieces))
    ∙ ap (λ xs. taken ++ flat_map f xs) (sym (drop-cons pieces i d here)) ∙ is)
