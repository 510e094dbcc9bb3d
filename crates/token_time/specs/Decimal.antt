-- Numbers that are told apart only up to a cap, and digits at the end of a number.
use Rattle.std.specs.Prelude.{ℕ, ◌==◌, min, List, Bool}
use Rattle.std.specs.List.{list_all}

-- above every time in nanoseconds
abbrev pub capped : ℕ → ℕ
capped n = min n 1000000000000000000000

abbrev pub all_zeros : List ℕ → Bool
all_zeros digits = list_all (λ b. b == 48) digits
