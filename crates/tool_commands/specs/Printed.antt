-- Texts that are printed byte by byte, since they may hold any byte.
use Rattle.std.specs.Prelude.{ℕ, ◌/◌, ◌%◌, ◌==◌, ◌&&◌, nat_lt, Bool, true, not, List, [], ◌∷◌, if◌then◌else◌}
use Rattle.std.specs.Fmt.{digit_glyph}
use Rattle.std.specs.List.{flat_map}

-- a visible ASCII character other than `%`
abbrev pub is_plain : ℕ → Bool
is_plain b = nat_lt 32 b && (nat_lt b 127 && not (b == 37))

-- a plain byte stands for itself; any other is `%` and two upper-case hexadecimal digits
abbrev pub printed_byte : ℕ → List ℕ
printed_byte b = if is_plain b then b ∷ [] else 37 ∷ digit_glyph true (b / 16) ∷ digit_glyph true (b % 16) ∷ []

abbrev pub printed : List ℕ → List ℕ
printed text = flat_map printed_byte text
