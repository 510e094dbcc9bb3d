-- Tables of 64 characters.
use Rattle.std.specs.Prelude.{ℕ, zero, suc, ◌==◌, nat_lt, Bool, true, false, not, ◌&&◌, if◌then◌else◌, List, [], ◌∷◌, length, ℤ, pos, negsuc, ◌≤ℤ◌}

-- the character is in the table
abbrev pub is_in : List ℕ → ℕ → Bool
is_in [] c = false
is_in (x ∷ xs) c = if x == c then true else is_in xs c

-- the place of a character in the table, from 0, and the table's length where it isn't there
abbrev pub digit_of : List ℕ → ℕ → ℕ
digit_of [] c = 0
digit_of (x ∷ xs) c = if x == c then 0 else suc (digit_of xs c)

-- the place of a character in the table, or -1
abbrev pub place_of : List ℕ → ℕ → ℤ
place_of table c = if is_in table c then pos (digit_of table c) else negsuc 0

-- each character of a text is in the table
abbrev pub all_in : List ℕ → List ℕ → Bool
all_in table [] = true
all_in table (c ∷ text) = is_in table c && all_in table text

-- a place: 0 to 63, or -1
abbrev pub IsPlace : ℤ → Type 0
IsPlace z = (negsuc 0 ≤ℤ z) × (z ≤ℤ pos 63)

-- no character stands twice
abbrev pub is_distinct : List ℕ → Bool
is_distinct [] = true
is_distinct (x ∷ xs) = not (is_in xs x) && is_distinct xs

-- each character is ASCII
abbrev pub is_ascii : List ℕ → Bool
is_ascii [] = true
is_ascii (x ∷ xs) = nat_lt x 128 && is_ascii xs

-- 64 different ASCII characters with `A` and without `=`, CR and LF
abbrev pub is_table : List ℕ → Bool
is_table table = (length table == 64) && is_distinct table && is_ascii table
    && is_in table 65 && not (is_in table 61) && not (is_in table 13) && not (is_in table 10)

-- the test holds for each number below n
unfoldable pub holds_below : (ℕ → Bool) → ℕ → Bool
holds_below p zero = true
holds_below p (suc n) = p n && holds_below p n
