-- Reading a length: what the bytes begin with, by cases on the bytes.
use Rattle.std.specs.Prelude.{ℕ, ◌+◌, ◌*◌, List, [], ◌∷◌, length, take, drop, ◌%◌, nat_lt, ◌==◌, ◌&&◌, Bool, if◌then◌else◌, Option, Some, None}

-- one byte, for a number from 128 on
abbrev pub one_byte : List ℕ → Option (ℕ × List ℕ)
one_byte [] = None
one_byte (a ∷ rest) = if nat_lt a 128 then None else Some (a, rest)

abbrev pub two_bytes : List ℕ → Option (ℕ × List ℕ)
two_bytes [] = None
two_bytes (a ∷ []) = None
two_bytes (a ∷ b ∷ rest) = if a == 0 then None else Some (a * 256 + b, rest)

abbrev pub three_bytes : List ℕ → Option (ℕ × List ℕ)
three_bytes [] = None
three_bytes (a ∷ []) = None
three_bytes (a ∷ b ∷ []) = None
three_bytes (a ∷ b ∷ c ∷ rest) = if a == 0 then None else Some (a * 65536 + b * 256 + c, rest)

abbrev pub four_bytes : List ℕ → Option (ℕ × List ℕ)
four_bytes [] = None
four_bytes (a ∷ []) = None
four_bytes (a ∷ b ∷ []) = None
four_bytes (a ∷ b ∷ c ∷ []) = None
four_bytes (a ∷ b ∷ c ∷ d ∷ rest) = if a == 0 then None else Some (a * 16777216 + b * 65536 + c * 256 + d, rest)

abbrev pub read_length : List ℕ → Option (ℕ × List ℕ)
read_length [] = None
read_length (first ∷ rest) =
    if nat_lt first 128
    then Some (first, rest)
    else (if first == 129
    then one_byte rest
    else (if first == 130
    then two_bytes rest
    else (if first == 131
    then three_bytes rest
    else (if first == 132 then four_bytes rest else None))))

-- Reading a value: its tag, its content, and what follows.
abbrev pub is_tag : ℕ → Bool
is_tag n = nat_lt 0 n && nat_lt (n % 32) 31

abbrev pub read_tag : List ℕ → Option (ℕ × List ℕ)
read_tag [] = None
read_tag (tag ∷ after) = if is_tag tag then Some (tag, after) else None

abbrev pub content_at : ℕ → Option (ℕ × List ℕ) → Option (ℕ × List ℕ × List ℕ)
content_at tag None = None
content_at tag (Some l) =
    if nat_lt l.0 4294967290
    then (if nat_lt (length l.1) l.0 then None else Some (tag, take l.0 l.1, drop l.0 l.1))
    else None

abbrev pub read_value : List ℕ → Option (ℕ × List ℕ × List ℕ)
read_value [] = None
read_value (tag ∷ after) = if is_tag tag then content_at tag (read_length after) else None
