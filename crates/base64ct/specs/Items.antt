-- What a decoder has left: for each byte to come its value, or `None` where its block is bad.
use Rattle.std.specs.Prelude.{◌≡◌, ℕ, ◌+◌, ◌<◌, ◌≤◌, ◌^◌, Bool, true, false, ◌⊎◌, if◌then◌else◌, List, [], ◌∷◌, ◌++◌, length, take, drop, map, Option, Some}
use Rattle.std.specs.Prelude.{None, Contains}
use Rattle.base64_alphabet.specs.Table.{all_in}
use Rattle.base64_alphabet.specs.Group.{End, bytes_of}
use Rattle.base64_alphabet.specs.Form.{Form}
use Rattle.base64_text.specs.Canonical.{loose_bytes}
use Rattle.base64_text.specs.LastBlock.{last_at, HasCanonicalEnd}
use Rattle.base64ct.specs.Lines.{joined, has_endings, ends_in_ending}
use Rattle.base64_text.specs.declared.errors.Error.{Error}
use Rattle.base64_text.specs.declared.errors.Error.TheVariants.{InvalidEncoding, InvalidLength, OutOfMemory}

-- the items of whole blocks: three bytes for each, or three bad items where a character isn't in the table
unfoldable pub block_items : End → List ℕ → List ℕ → List (Option ℕ)
block_items end table (p ∷ q ∷ r ∷ s ∷ rest) = (if all_in table (p ∷ q ∷ r ∷ s ∷ []) then map Some (bytes_of end table p q r s) else None ∷ None ∷ None
    ∷ []) ++ block_items end table rest
block_items end table _ = []

-- the items of a text: those of its blocks before the last, and the bytes of the last
abbrev pub items : Form → List ℕ → List (Option ℕ)
items form t = block_items form.end form.table (take (last_at (length t)) t) ++ map Some (loose_bytes form (drop (last_at (length t)) t))

-- each line that is cut off has its ending, none follows the last, and the last block of the lines joined
-- is canonical
abbrev pub IsWrapped : Form → ℕ → List ℕ → Type 0
IsWrapped form w text = (ends_in_ending text ≡ false) × (has_endings w text ≡ true) × HasCanonicalEnd form (joined w text)

-- why `new_wrapped` refuses a text
abbrev pub IsWrapError : Form → ℕ → List ℕ → Error → Type 0
IsWrapError form w text InvalidLength = (w < 4) ⊎ (length text ≡ 0)
IsWrapError form w text InvalidEncoding = (4 ≤ w) × (0 < length text) × (IsWrapped form w text → ⊥)
IsWrapError form w text OutOfMemory = ⊥

-- why all that is left is not appended to a vector of n bytes
abbrev pub IsAppendError : List (Option ℕ) → ℕ → Error → Type 0
IsAppendError left n InvalidLength = 2 ^ 64 ≤ length left + n
IsAppendError left n InvalidEncoding = (length left + n < 2 ^ 64) × Contains left None
IsAppendError left n OutOfMemory = length left + n < 2 ^ 64

-- why `new` refuses a text, behind which an ending was dropped
abbrev pub IsNewError : Form → List ℕ → Error → Type 0
IsNewError form text InvalidLength = length text ≡ 0
IsNewError form text InvalidEncoding = (0 < length text) × (HasCanonicalEnd form text → ⊥)
IsNewError form text OutOfMemory = ⊥

-- why n bytes are not taken from what is left
abbrev pub IsTakeError : List (Option ℕ) → ℕ → Error → Type 0
IsTakeError left n InvalidLength = length left < n
IsTakeError left n InvalidEncoding = (n ≤ length left) × Contains (take n left) None
IsTakeError left n OutOfMemory = ⊥

-- a byte before some that are known
abbrev pub with_first : ℕ → Option (List ℕ) → Option (List ℕ)
with_first x None = None
with_first x (Some xs) = Some (x ∷ xs)

-- the bytes of items, where none is bad
abbrev pub known_bytes : List (Option ℕ) → Option (List ℕ)
known_bytes [] = Some []
known_bytes (None ∷ left) = None
known_bytes (Some x ∷ left) = with_first x (known_bytes left)
