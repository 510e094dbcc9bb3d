-- How far the value of a member reaches.
use Rattle.std.specs.Prelude.{ℕ, ◌||◌, ◌&&◌, ◌==◌, List, [], ◌∷◌, length, take, drop, Bool, true, false, Option, Some, None, option_and_then, if◌then◌else◌}
use Rattle.spiffe_token.specs.declared.value.Place.{Place}
use Rattle.spiffe_token.specs.declared.value.Place.TheVariants.{Outside, Quoted, Escaped}
use Rattle.spiffe_token.specs.declared.value.Bracket.{Bracket}
use Rattle.spiffe_token.specs.declared.value.Bracket.TheVariants.{Square, Curly}
use Rattle.spiffe_token.specs.Strings.{kept_len, place_after, one_more}

abbrev pub is_same : Bracket → Bracket → Bool
is_same Square Square = true
is_same Curly Curly = true
is_same Square Curly = false
is_same Curly Square = false

-- what is open behind a closing bracket: it ends the innermost open one, which must be of its kind
abbrev pub closed : Bracket → List Bracket → Option (List Bracket)
closed kind [] = None
closed kind (b ∷ bs) = if is_same kind b then Some bs else None

-- what is open behind a byte that stands in no string, the innermost bracket first
abbrev pub open_after : List Bracket → ℕ → Option (List Bracket)
open_after brackets b =
    if b == 91 then Some (Square ∷ brackets) else (if b == 123 then Some (Curly ∷ brackets)
    else (if b == 93 then closed Square brackets else (if b == 125 then closed Curly brackets else Some brackets)))

abbrev pub nested : List Bracket → Place → ℕ → Option (List Bracket)
nested brackets Outside b = open_after brackets b
nested brackets Quoted b = Some brackets
nested brackets Escaped b = Some brackets

-- a `,` or `}` ends a value where it stands in no string and no bracket is open
abbrev pub ends_value : List Bracket → Place → ℕ → Bool
ends_value brackets Outside b = (length brackets == 0) && (b == 44 || b == 125)
ends_value brackets Quoted b = false
ends_value brackets Escaped b = false

-- how many bytes stand before the one that ends the value
abbrev pub value_from : List Bracket → Place → List ℕ → Option ℕ
value_from brackets p [] = None
value_from brackets p (b ∷ bs) =
    if ends_value brackets p b then Some 0 else option_and_then (λ more. one_more (value_from more (place_after p b) bs)) (nested brackets p b)

abbrev pub unless_empty : ℕ → List ℕ → Option (ℕ × List ℕ)
unless_empty kept rest = if kept == 0 then None else Some (kept, rest)

-- how long the value at the front is without the blanks at its end, and what is left from the byte that ends it
abbrev pub value_part : List ℕ → Option (ℕ × List ℕ)
value_part bs = option_and_then (λ n. unless_empty (kept_len (take n bs)) (drop n bs)) (value_from [] Outside bs)
