-- The content of a number of one byte as an integer (X.690, 8.3).
use Rattle.std.specs.Prelude.{ℕ, List, [], ◌∷◌, nat_lt, if◌then◌else◌}

-- The fewest bytes in two's complement: from 128 on a zero stands in front.
abbrev pub integer_content : ℕ → List ℕ
integer_content n = if nat_lt n 128 then n ∷ [] else 0 ∷ n ∷ []
