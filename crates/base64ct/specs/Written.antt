-- What an encoder's output and block hold.
use Rattle.std.specs.Prelude.{◌≡◌, ℕ, ◌*◌, ◌/◌, ◌%◌, ◌≤◌, List, ◌++◌, length, take, Option, Some, None}
use Rattle.base64_alphabet.specs.Group.{End}
use Rattle.base64_alphabet.specs.Encoding.{characters, bytes_of_blocks}
use Rattle.base64_text.specs.Canonical.{IsBytes}
use Rattle.base64ct.specs.Lines.{joined}
use Rattle.base64ct.specs.Encoder.{in_lines}
use Rattle.base64ct.specs.LineWrapper.{HasLines, lines_of}
use Rattle.base64ct.specs.declared.wrapping.LineWrapper.{LineWrapper}

-- the bytes that a text in lines stands for
abbrev pub bytes_written : End → List ℕ → Option LineWrapper → List ℕ → List ℕ
bytes_written end table None text = bytes_of_blocks end table text
bytes_written end table (Some l) text = bytes_of_blocks end table (joined l.width text)

-- the bytes taken: those of the text that was written, and those that wait in the block
abbrev pub taken_of : End → List ℕ → Option LineWrapper → List ℕ → ℕ → ℕ → List ℕ → List ℕ
taken_of end table wrapper output filled count block = bytes_written end table wrapper (take filled output) ++ take (count % 3) block

-- the front of the output is the text of whole groups
pub record IsWritten (end : End) (table : List ℕ) (wrapper : Option LineWrapper) (output : List ℕ) (filled count : ℕ) : Type 0 where
  pub within : filled ≤ length output
  pub bytes : IsBytes (bytes_written end table wrapper (take filled output))
  pub groups : length (bytes_written end table wrapper (take filled output)) ≡ 3 * (count / 3)
  pub text : take filled output ≡ in_lines (lines_of wrapper) (characters end table (bytes_written end table wrapper (take filled output)))
  pub lines : HasLines wrapper (characters end table (bytes_written end table wrapper (take filled output)))
