-- The encoding of a list of bytes (RFC 4648 section 4).
use Rattle.std.specs.Prelude.{ℕ, ◌-◌, ◌%◌, if◌then◌else◌, List, [], ◌∷◌, ◌++◌, length, take, replicate}
use Rattle.base64_alphabet.specs.Group.{End, characters_of, bytes_of}
use Rattle.base64_alphabet.specs.Form.{Form}

-- the characters of a list of bytes: a last group of one or two bytes is filled with zero bits, and gives
-- the first two or three characters
unfoldable pub characters : End → List ℕ → List ℕ → List ℕ
characters end table [] = []
characters end table (a ∷ []) = take 2 (characters_of end table a 0 0)
characters end table (a ∷ b ∷ []) = take 3 (characters_of end table a b 0)
characters end table (a ∷ b ∷ c ∷ rest) = characters_of end table a b c ++ characters end table rest

-- how many `=` follow the characters of n bytes in a padded alphabet (RFC 4648 section 3.2)
abbrev pub padding_len : ℕ → ℕ
padding_len n = (3 - n % 3) % 3

-- the encoding of a list of bytes
abbrev pub encoding_of : Form → List ℕ → List ℕ
encoding_of form b = characters form.end form.table b ++ (if form.padded then replicate (padding_len (length b)) 61 else [])

-- the bytes that whole blocks of four characters stand for
unfoldable pub bytes_of_blocks : End → List ℕ → List ℕ → List ℕ
bytes_of_blocks end table (p ∷ q ∷ r ∷ s ∷ rest) = bytes_of end table p q r s ++ bytes_of_blocks end table rest
bytes_of_blocks end table _ = []
