-- Numbers as the program has them.
use Rattle.std.specs.Str.Parse.{AllDigits}
use Rattle.token_time.specs.declared.number.Exponent as program_exponent
use Rattle.token_time.specs.declared.number.Number as program
use Rattle.token_time.specs.Number.{Exponent, Number}

abbrev pub exponent_value : program_exponent.Exponent → Exponent
exponent_value e = record { negative = e.negative; magnitude = e.magnitude }

abbrev pub number_value : program.Number → Number
number_value n = record { negative = n.negative; whole = n.whole.now; fraction = n.fraction.now; exponent = exponent_value n.exponent }

-- its digits are digits
pub record HasDigits (n : program.Number) : Type 0 where
  pub whole : AllDigits 10 n.whole.now
  pub fraction : AllDigits 10 n.fraction.now
