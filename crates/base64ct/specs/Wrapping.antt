-- Texts cut into lines of one width and one ending (after RFC 7468 section 2).
use Rattle.std.specs.Prelude.{ℕ, ◌+◌, ◌-◌, ◌*◌, ◌/◌, List, [], ◌∷◌, length}
use Rattle.std.specs.List.{join_by}
use Rattle.std.specs.Simd.{first_chunks}
use Rattle.base64ct.specs.declared.line_ending.LineEnding.{LineEnding}
use Rattle.base64ct.specs.declared.line_ending.LineEnding.TheVariants.{CR, LF, CRLF}

-- the bytes of an ending
abbrev pub ending_bytes : LineEnding → List ℕ
ending_bytes CR = 13 ∷ []
ending_bytes LF = 10 ∷ []
ending_bytes CRLF = 13 ∷ 10 ∷ []

-- how many lines of w characters n characters take
abbrev pub line_count : ℕ → ℕ → ℕ
line_count w n = (n + w - 1) / w

-- a text in lines of w characters, the last of 1 to w: its chunks, joined by the ending
unfoldable pub wrapped : ℕ → LineEnding → List ℕ → List ℕ
wrapped w ending text = join_by (λ line. line) (ending_bytes ending) (first_chunks w (line_count w (length text)) text)

-- the length of n characters in lines
abbrev pub wrapped_len : ℕ → LineEnding → ℕ → ℕ
wrapped_len w ending n = n + (line_count w n - 1) * length (ending_bytes ending)
