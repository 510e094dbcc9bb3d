-- Times as JSON numbers write them, in seconds: their exact value in nanoseconds.
use Rattle.std.specs.Prelude.{ℕ, ◌+◌, ◌*◌, ◌/◌, ◌%◌, ◌^◌, ◌==◌, ◌&&◌, ℤ, pos, negsuc, neg_ℤ, int_le, List, ◌++◌, length, Bool, Option, Some, None}
use Rattle.std.specs.Prelude.{option_and_then, if◌then◌else◌}
use Rattle.std.specs.Str.Parse.{digits_value}
use Rattle.token_time.specs.Number.{Exponent, Number, number_of}

-- 10 to the power of an exponent is 10 ^ raised / 10 ^ lowered
abbrev pub raised : Exponent → ℕ
raised e = if e.negative then 0 else e.magnitude

abbrev pub lowered : Exponent → ℕ
lowered e = if e.negative then e.magnitude else 0

-- m * 10 ^ up / 10 ^ down, where this is a whole number
unfoldable pub whole_quotient : ℕ → ℕ → ℕ → Option ℕ
whole_quotient m up down = if m * 10 ^ up % 10 ^ down == 0 then Some (m * 10 ^ up / 10 ^ down) else None

-- the absolute value of a number in nanoseconds, where this is a whole number
abbrev pub magnitude_of : Number → Option ℕ
magnitude_of n = whole_quotient (digits_value 10 (n.whole ++ n.fraction)) (raised n.exponent + 9) (lowered n.exponent + length n.fraction)

abbrev pub signed : Bool → ℕ → ℤ
signed negative m = if negative then neg_ℤ (pos m) else pos m

-- from the start of the year -9999 to the end of the year 9999, in nanoseconds from 1970 on
abbrev pub is_in_years : ℤ → Bool
is_in_years t = int_le (negsuc 377705116799999999999) t && int_le t (pos 253402300799999999999)

abbrev pub if_in_years : ℤ → Option ℤ
if_in_years t = if is_in_years t then Some t else None

abbrev pub nanoseconds_in : Number → Option ℤ
nanoseconds_in n = option_and_then (λ m. if_in_years (signed n.negative m)) (magnitude_of n)

-- the time that a text writes, where it is a number with such an exponent, a whole number of nanoseconds and in these years
unfoldable pub nanoseconds_of : List ℕ → Option ℤ
nanoseconds_of text = option_and_then nanoseconds_in (number_of text)
