-- The last block of a text: its last one to four characters.
use Rattle.std.specs.Prelude.{◌≡◌, ℕ, ◌-◌, ◌*◌, ◌/◌, nat_lt, if◌then◌else◌, List, [], ◌∷◌, slice_index, length, drop}
use Rattle.base64_alphabet.specs.Form.{Form}
use Rattle.base64_alphabet.specs.Encoding.{encoding_of}
use Rattle.base64_text.specs.Canonical.{IsBytes}

-- where the last block of n characters begins
abbrev pub last_at : ℕ → ℕ
last_at n = 4 * ((n - 1) / 4)

-- the last block is the encoding of some bytes
abbrev pub HasCanonicalEnd : Form → List ℕ → Type 0
HasCanonicalEnd form t = (b : List ℕ) × IsBytes b × (drop (last_at (length t)) t ≡ encoding_of form b)

-- the first u characters of a block, filled with `A`
abbrev pub filled : ℕ → List ℕ → List ℕ
filled u t = slice_index t 0 ∷ slice_index t 1 ∷ (if nat_lt 2 u then slice_index t 2 else 65) ∷ (if nat_lt 3 u then slice_index t 3 else 65) ∷ []
