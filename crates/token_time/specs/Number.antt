-- JSON numbers (RFC 8259, section 6) as their texts write them. Each part takes a text, and gives what it holds and what follows.
use Rattle.std.specs.Prelude.{ℕ, nat_lt, nat_le, ◌==◌, ◌&&◌, ◌||◌, List, [], ◌∷◌, length, take, drop, Bool, true, false, Option, Some, None, option_map}
use Rattle.std.specs.Prelude.{option_and_then, if◌then◌else◌}
use Rattle.std.specs.List.{prefix_len, list_all}
use Rattle.std.specs.Char.{is_ascii_digit}
use Rattle.std.specs.Str.Parse.{digits_value}

pub record Exponent : Type 0 where
  pub negative : Bool
  pub magnitude : ℕ

-- a number's sign, its digits before and behind the dot, and its exponent
pub record Number : Type 0 where
  pub negative : Bool
  pub whole : List ℕ
  pub fraction : List ℕ
  pub exponent : Exponent

-- the digits at the front, and what follows them
abbrev pub digits_front : List ℕ → List ℕ × List ℕ
digits_front text = (take (prefix_len is_ascii_digit text) text, drop (prefix_len is_ascii_digit text) text)

-- the same, where there is a digit
abbrev pub digits_part : List ℕ → Option (List ℕ × List ℕ)
digits_part text = if prefix_len is_ascii_digit text == 0 then None else Some (digits_front text)

-- the digits before the dot: a first `0` stands alone
abbrev pub whole_part : List ℕ → Option (List ℕ × List ℕ)
whole_part [] = None
whole_part (b ∷ bs) = if b == 48 then Some (b ∷ [], bs) else digits_part (b ∷ bs)

-- the digits behind the dot, if there is one
abbrev pub fraction_part : List ℕ → Option (List ℕ × List ℕ)
fraction_part [] = Some ([], [])
fraction_part (b ∷ bs) = if b == 46 then digits_part bs else Some ([], b ∷ bs)

-- an exponent from -2^31 to 2^31-1
abbrev pub exponent_in_range : Bool → ℕ → Option Exponent
exponent_in_range negative magnitude =
    if nat_le magnitude (if negative then 2147483648 else 2147483647) then Some record { negative = negative; magnitude = magnitude } else None

-- an exponent of these digits, which are some and no other bytes
abbrev pub exponent_of : Bool → List ℕ → Option Exponent
exponent_of negative digits =
    if nat_lt 0 (length digits) && list_all is_ascii_digit digits then exponent_in_range negative (digits_value 10 digits) else None

abbrev pub signed_exponent : List ℕ → Option Exponent
signed_exponent [] = None
signed_exponent (b ∷ bs) = if b == 45 then exponent_of true bs else (if b == 43 then exponent_of false bs else exponent_of false (b ∷ bs))

-- the exponent that ends a number; 0 where none is written
abbrev pub exponent_part : List ℕ → Option Exponent
exponent_part [] = Some record { negative = false; magnitude = 0 }
exponent_part (b ∷ bs) = if b == 101 || b == 69 then signed_exponent bs else None

abbrev pub with_fraction : Bool → List ℕ → List ℕ × List ℕ → Option Number
with_fraction negative whole p =
    option_map (λ exponent. record { negative = negative; whole = whole; fraction = p.0; exponent = exponent }) (exponent_part p.1)

abbrev pub unsigned_number : Bool → List ℕ → Option Number
unsigned_number negative text = option_and_then (λ p. option_and_then (with_fraction negative p.0) (fraction_part p.1)) (whole_part text)

-- the number that a text writes, if its exponent is from -2^31 to 2^31-1
abbrev pub number_of : List ℕ → Option Number
number_of [] = None
number_of (b ∷ bs) = if b == 45 then unsigned_number true bs else unsigned_number false (b ∷ bs)
