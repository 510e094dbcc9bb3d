-- Lanes of bytes.
use Rattle.std.specs.Prelude.{ℕ, ◌-◌, ◌%◌, List, [], ◌∷◌, ◌++◌, ℤ, pos, negsuc, nat_lt, if◌then◌else◌}
use Rattle.base64_alphabet.specs.Group.{End, bytes_of_places, digits_of_number, number}

-- the low eight bits of a number
abbrev pub low_byte : ℤ → ℕ
low_byte (pos n) = n % 256
low_byte (negsuc n) = 255 - n % 256

-- the place whose low byte it is: -1 above 63
abbrev pub widened : ℕ → ℤ
widened n = if nat_lt 63 n then negsuc 0 else pos n

-- the bytes of digits of six bits, four a group
unfoldable pub bytes_of_digits : End → List ℕ → List ℕ
bytes_of_digits end (p ∷ q ∷ r ∷ s ∷ rest) = bytes_of_places end p q r s ++ bytes_of_digits end rest
bytes_of_digits end _ = []

-- the digits of six bits of bytes, three a group
unfoldable pub digits_of_bytes : End → List ℕ → List ℕ
digits_of_bytes end (a ∷ b ∷ c ∷ rest) = digits_of_number end (number end a b c) ++ digits_of_bytes end rest
digits_of_bytes end _ = []
