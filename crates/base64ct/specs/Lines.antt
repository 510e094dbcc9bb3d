-- Texts in lines (after the line endings of RFC 7468 section 2).
use Rattle.std.specs.Prelude.{◌≡◌, ℕ, zero, suc, ◌<◌, ◌≤◌, nat_lt, Bool, true, false, ◌==◌, ◌&&◌, ◌||◌, if◌then◌else◌, List, [], ◌∷◌, ◌++◌, ◌-◌, length}
use Rattle.std.specs.Prelude.{slice_index, take, drop, All}
use Rattle.base64_alphabet.specs.Form.{Form}
use Rattle.base64_alphabet.specs.Encoding.{encoding_of}
use Rattle.base64_text.specs.Canonical.{IsBytes}

-- CR, LF or CRLF
pub data IsEnding : List ℕ → Type 0 where
  Cr : IsEnding (13 ∷ [])
  Lf : IsEnding (10 ∷ [])
  Crlf : IsEnding (13 ∷ 10 ∷ [])

-- CR or LF
abbrev pub is_line_break : ℕ → Bool
is_line_break c = (c == 13) || (c == 10)

-- no CR and no LF
abbrev pub IsLine : List ℕ → Type 0
IsLine line = All (λ c. is_line_break c ≡ false) line

-- the text is lines of w characters, the last of 1 to w, parted by endings, and t is the lines joined
pub data Lines (w : ℕ) : List ℕ → List ℕ → Type 0 where
  Last : (line : List ℕ) → IsLine line → 0 < length line → length line ≤ w → Lines w line line
  More : (line ending text t : List ℕ) → IsLine line → length line ≡ w → IsEnding ending → Lines w text t → Lines w (line ++ ending ++ text) (line ++ t)

-- the text is lines of w characters whose join is the encoding of the bytes b
abbrev pub IsWrappedText : Form → ℕ → List ℕ → List ℕ → Type 0
IsWrappedText form w text b = (t : List ℕ) × Lines w text t × (t ≡ encoding_of form b) × IsBytes b

-- a text starts with CR or LF
abbrev pub starts_with_ending : List ℕ → Bool
starts_with_ending [] = false
starts_with_ending (c ∷ text) = is_line_break c

-- a text ends in CR or LF
abbrev pub ends_in_ending : List ℕ → Bool
ends_in_ending [] = false
ends_in_ending (c ∷ []) = is_line_break c
ends_in_ending (c ∷ d ∷ text) = ends_in_ending (d ∷ text)

-- the length of the CR, LF or CRLF that a text ends in, and 0 where it ends in none
abbrev pub final_ending_len : List ℕ → ℕ
final_ending_len text = if nat_lt 1 (length text) && ((slice_index text (length text - 2) == 13) && (slice_index text (length text - 1) == 10)) then 2
    else if nat_lt 0 (length text) && is_line_break (slice_index text (length text - 1)) then 1 else 0

-- a text without the CR, LF or CRLF that it ends in
abbrev pub trimmed : List ℕ → List ℕ
trimmed text = take (length text - final_ending_len text) text

-- a text behind the LF that it may start with
abbrev pub after_lf : List ℕ → List ℕ
after_lf [] = []
after_lf (c ∷ text) = if c == 10 then text else c ∷ text

-- a text behind the ending that it starts with: CRLF is taken whole
abbrev pub after_ending : List ℕ → List ℕ
after_ending [] = []
after_ending (c ∷ text) = if c == 13 then after_lf text else if c == 10 then text else c ∷ text

-- the pieces of a text, joined, where at most n lines are cut off: while more than w characters remain, a
-- line of w is cut off and the ending after it is dropped
abbrev pub joined_within : ℕ → ℕ → List ℕ → List ℕ
joined_within zero w text = text
joined_within (suc n) w text = if nat_lt w (length text) then take w text ++ joined_within n w (after_ending (drop w text)) else text

abbrev pub joined : ℕ → List ℕ → List ℕ
joined w text = joined_within (length text) w text

-- what stands after each line that is so cut off starts with an ending
abbrev pub has_endings_within : ℕ → ℕ → List ℕ → Bool
has_endings_within zero w text = true
has_endings_within (suc n) w text = if nat_lt w (length text)
    then starts_with_ending (drop w text) && has_endings_within n w (after_ending (drop w text)) else true

abbrev pub has_endings : ℕ → List ℕ → Bool
has_endings w text = has_endings_within (length text) w text
