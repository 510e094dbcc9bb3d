-- Reading of a text in lines from the front.
use Rattle.std.specs.Prelude.{◌≡◌, ℕ, ◌+◌, ◌-◌, ◌*◌, ◌<◌, ◌≤◌, Bool, true, false, ◌==◌, ◌&&◌, ◌⊎◌, if◌then◌else◌, List, [], ◌∷◌, ◌++◌, length, take, drop, map}
use Rattle.std.specs.Prelude.{Option, Some}
use Rattle.base64_alphabet.specs.Group.{End}
use Rattle.base64ct.specs.Lines.{is_line_break}
use Rattle.base64ct.specs.Items.{block_items}
use Rattle.base64ct.specs.declared.lines.LineReader.{LineReader}
use Rattle.base64ct.specs.declared.left.Few.{Few}
use Rattle.base64ct.specs.declared.left.Left.{Left}

-- what is still to be joined: n characters are to come in this line, and `after` says that the character
-- before was a CR that ended one
abbrev pub joined_from : ℕ → ℕ → Bool → List ℕ → List ℕ
joined_from w n after [] = []
joined_from w n after (c ∷ text) = if after && (c == 10) then joined_from w n false text
    else if n == 0 then joined_from w w (c == 13) text
    else c ∷ joined_from w (n - 1) false text

-- each full line of what is still to come is followed by a CR or an LF
abbrev pub has_endings_from : ℕ → ℕ → Bool → List ℕ → Bool
has_endings_from w n after [] = true
has_endings_from w n after (c ∷ text) = if after && (c == 10) then has_endings_from w n false text
    else if n == 0 then is_line_break c && has_endings_from w w (c == 13) text
    else has_endings_from w (n - 1) false text

-- the characters that a reader still gives
abbrev pub characters_left : LineReader → List ℕ
characters_left r = joined_from r.width r.left false r.text.now

-- each full line that a reader still has is followed by an ending
pub record IsReader (r : LineReader) : Type 0 where
  pub wide : 0 < r.width
  pub ends : has_endings_from r.width r.left false r.text.now ≡ true

-- lines of w characters were cut off a text, count characters in all; `line` is the last of them, and the
-- rest stands behind its ending
pub record IsCut (w count : ℕ) (text line rest : List ℕ) : Type 0 where
  pub short : count + length rest ≤ length text
  pub ends : has_endings_from w w false text ≡ has_endings_from w w false rest
  pub within : length line ≤ count
  pub full : (count ≡ 0) ⊎ (length line ≡ w)
  pub tail : drop (count - length line) (joined_from w w false text) ≡ line ++ joined_from w w false rest

-- a few bytes that are still to be given
abbrev pub few_bytes : Few → List ℕ
few_bytes f = drop f.start (take f.end f.bytes)

-- a few bytes stand in three
pub record IsFew (f : Few) : Type 0 where
  pub start : f.start ≤ f.end
  pub end : f.end ≤ 3

-- what a decoder has left: bytes of a block that was read, whole blocks, and the bytes of the last block
abbrev pub items_left : End → List ℕ → Left → List (Option ℕ)
items_left end table s = map Some (few_bytes s.pending) ++ (block_items end table (take (4 * s.blocks) (characters_left s.reader))
    ++ map Some (few_bytes s.last))

pub record IsLeft (s : Left) : Type 0 where
  pub reader : IsReader s.reader
  pub blocks : 4 * s.blocks ≤ length (characters_left s.reader)
  pub pending : IsFew s.pending
  pub last : IsFew s.last
