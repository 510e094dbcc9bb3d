-- Groups of three bytes, each written as four numbers of six bits (RFC 4648 section 4).
use Rattle.std.specs.Prelude.{ℕ, ◌+◌, ◌*◌, ◌/◌, ◌%◌, ◌||◌, if◌then◌else◌, List, [], ◌∷◌, ℤ, pos, int_lt, unsigned_abs, slice_index, map}
use Rattle.base64_alphabet.specs.Table.{digit_of}

-- the end from which a group is read: its first byte is the highest or the lowest
pub data End : Type 0 where
  High : End
  Low : End

-- a group as a number of 24 bits
abbrev pub number : End → ℕ → ℕ → ℕ → ℕ
number High a b c = a * 65536 + b * 256 + c
number Low a b c = c * 65536 + b * 256 + a

-- the three bytes of a number
abbrev pub bytes_of_number : End → ℕ → List ℕ
bytes_of_number High n = n / 65536 ∷ n / 256 % 256 ∷ n % 256 ∷ []
bytes_of_number Low n = n % 256 ∷ n / 256 % 256 ∷ n / 65536 ∷ []

-- the four digits of six bits of a number
abbrev pub digits_of_number : End → ℕ → List ℕ
digits_of_number High n = n / 262144 ∷ n / 4096 % 64 ∷ n / 64 % 64 ∷ n % 64 ∷ []
digits_of_number Low n = n % 64 ∷ n / 64 % 64 ∷ n / 4096 % 64 ∷ n / 262144 ∷ []

-- the number of four digits
abbrev pub number_of_places : End → ℕ → ℕ → ℕ → ℕ → ℕ
number_of_places High p q r s = p * 262144 + q * 4096 + r * 64 + s
number_of_places Low p q r s = s * 262144 + r * 4096 + q * 64 + p

-- the bytes of four digits
abbrev pub bytes_of_places : End → ℕ → ℕ → ℕ → ℕ → List ℕ
bytes_of_places end p q r s = bytes_of_number end (number_of_places end p q r s)

-- the bytes that a block of four characters stands for
abbrev pub bytes_of : End → List ℕ → ℕ → ℕ → ℕ → ℕ → List ℕ
bytes_of end table a b c d = bytes_of_places end (digit_of table a) (digit_of table b) (digit_of table c) (digit_of table d)

-- the four characters of three bytes
abbrev pub characters_of : End → List ℕ → ℕ → ℕ → ℕ → List ℕ
characters_of end table a b c = map (slice_index table) (digits_of_number end (number end a b c))

-- 1 where a place is -1, else 0
abbrev pub answer_of : ℤ → ℤ → ℤ → ℤ → ℤ
answer_of p q r s = if int_lt p (pos 0) || int_lt q (pos 0) || int_lt r (pos 0) || int_lt s (pos 0) then pos 1 else pos 0

-- the low six bits of a place: 63 at -1
abbrev pub sextet : ℤ → ℕ
sextet z = if int_lt z (pos 0) then 63 else unsigned_abs z
