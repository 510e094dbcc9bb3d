-- The numbers that calls answer. Where a program has a status of that meaning, it has the same number.
use Rattle.std.specs.Prelude.{ℕ}

abbrev pub done : ℕ
done = 0

-- the input breaks a rule
abbrev pub refused : ℕ
refused = 1

-- an argument that stands for one of several things stands for none
abbrev pub no_choice : ℕ
no_choice = 2

abbrev pub no_memory : ℕ
no_memory = 5

-- the input is longer than a call takes
abbrev pub too_large : ℕ
too_large = 6

-- a buffer of the caller's is too short for the answer
abbrev pub no_room : ℕ
no_room = 8
