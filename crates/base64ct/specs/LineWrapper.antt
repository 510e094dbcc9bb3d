-- A walk over the characters of a text that is cut into lines.
use Rattle.std.specs.Prelude.{◌≡◌, ◌≤◌, ℕ, zero, suc, ◌-◌, List, [], ◌∷◌, ◌++◌, Option, Some, None}
use Rattle.base64ct.specs.Wrapping.{ending_bytes}
use Rattle.base64ct.specs.declared.line_ending.LineEnding.{LineEnding}
use Rattle.base64ct.specs.declared.wrapping.LineWrapper.{LineWrapper}

-- a text in lines of w characters, where n fit into the line that is begun
abbrev pub wrapped_from : ℕ → List ℕ → ℕ → List ℕ → List ℕ
wrapped_from w ending n [] = []
wrapped_from w ending zero (c ∷ text) = ending ++ c ∷ wrapped_from w ending (w - 1) text
wrapped_from w ending (suc n) (c ∷ text) = c ∷ wrapped_from w ending n text

-- how many characters fit into its last line
abbrev pub left_from : ℕ → ℕ → List ℕ → ℕ
left_from w n [] = n
left_from w zero (c ∷ text) = left_from w (w - 1) text
left_from w (suc n) (c ∷ text) = left_from w n text

-- the width and the ending of an encoder's lines
abbrev pub lines_of : Option LineWrapper → Option (ℕ × LineEnding)
lines_of None = None
lines_of (Some l) = Some (l.width, l.ending)

-- a width that isn't 0
abbrev pub IsWide : Option LineWrapper → Type 0
IsWide None = Unit {0}
IsWide (Some l) = 1 ≤ l.width

-- a further text in an encoder's lines
abbrev pub in_lines_from : Option LineWrapper → List ℕ → List ℕ
in_lines_from None text = text
in_lines_from (Some l) text = wrapped_from l.width (ending_bytes l.ending) l.left text

-- where its lines stand behind a further text
abbrev pub advanced : Option LineWrapper → List ℕ → Option LineWrapper
advanced None text = None
advanced (Some l) text = Some (record l { left = left_from l.width l.left text })

-- the width is at least four, and as many characters fit into the last line as were left
abbrev pub HasLines : Option LineWrapper → List ℕ → Type 0
HasLines None text = Unit {0}
HasLines (Some l) text = (4 ≤ l.width) × (l.left ≡ left_from l.width l.width text)
