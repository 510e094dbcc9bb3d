-- What an encoder is seen as, and the text that it writes.
use Rattle.std.specs.Prelude.{ℕ, ◌*◌, ◌/◌, List, length, take, Option, Some, None}
use Rattle.base64_alphabet.specs.Encoding.{encoding_of}
use Rattle.base64_alphabet.specs.Form.{Form}
use Rattle.base64ct.specs.Wrapping.{wrapped, wrapped_len}
use Rattle.base64ct.specs.declared.line_ending.LineEnding.{LineEnding}

-- the bytes taken, the length of the output, the part of it behind the text that stands there, and the width and
-- the ending of its lines if it has these
pub record Progress : Type 0 where
  pub taken : List ℕ
  pub room : ℕ
  pub behind : List ℕ
  pub lines : Option (ℕ × LineEnding)

-- a text in an encoder's lines: without a width it is as it was
abbrev pub in_lines : Option (ℕ × LineEnding) → List ℕ → List ℕ
in_lines None text = text
in_lines (Some lines) text = wrapped lines.0 lines.1 text

-- the longest front whose length is a multiple of three
abbrev pub whole_groups : List ℕ → List ℕ
whole_groups bytes = take (3 * (length bytes / 3)) bytes

-- how long the text is that an encoder has written: that of the whole groups taken
abbrev pub position_of : Form → Progress → ℕ
position_of form e = length (in_lines e.lines (encoding_of form (whole_groups e.taken)))

-- the length of n characters in an encoder's lines
abbrev pub in_lines_len : Option (ℕ × LineEnding) → ℕ → ℕ
in_lines_len None n = n
in_lines_len (Some lines) n = wrapped_len lines.0 lines.1 n
