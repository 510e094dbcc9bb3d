-- The members of the one object that a text is, with their names as they are written.
use Rattle.std.specs.Prelude.{ℕ, zero, suc, ◌+◌, ◌-◌, ◌<◌, ◌==◌, List, [], ◌∷◌, length, Option, Some, None, option_map, option_and_then, if◌then◌else◌}
use Rattle.spiffe_token.specs.declared.raw_members.RawMember.{RawMember}
use Rattle.spiffe_token.specs.declared.raw_members.Follows as program
use Rattle.spiffe_token.specs.declared.raw_members.Follows.TheVariants as variant
use Rattle.spiffe_token.specs.Strings.{strip, skip_blanks, string_part}
use Rattle.spiffe_token.specs.Values.{value_part}

-- a member: its name as it is written, and the places in the text where its value begins and ends
pub record Raw : Type 0 where
  pub name : List ℕ
  pub start : ℕ
  pub «end» : ℕ

-- the name at the front, and what is left from the value on
abbrev pub name_part : List ℕ → Option (List ℕ × List ℕ)
name_part bs =
    option_and_then (λ q. option_map (λ rest. (q.0, skip_blanks rest)) (strip 58 (skip_blanks q.1)))
    (option_and_then string_part (strip 34 bs))

abbrev pub raw_at : List ℕ → ℕ → ℕ → Raw
raw_at name start len = record { name = name; start = start; «end» = start + len }

abbrev pub with_value : ℕ → List ℕ × List ℕ → Option (Raw × List ℕ)
with_value total p = option_map (λ v. (raw_at p.0 (total - length p.1) v.0, v.1)) (value_part p.1)

-- the member at the front of what is left of a text of `total` bytes, and what is left behind it
unfoldable pub member_part : ℕ → List ℕ → Option (Raw × List ℕ)
member_part total bs = option_and_then (with_value total) (name_part bs)

-- what follows a member: another one, the end of the text, or what makes the text no object
pub data Follows : Type 0 where
  another : List ℕ → Follows
  the_end : Follows
  no_object : Follows

abbrev pub after_brace : List ℕ → Follows
after_brace bs = if length (skip_blanks bs) == 0 then the_end else no_object

abbrev pub what_follows : List ℕ → Follows
what_follows [] = no_object
what_follows (b ∷ bs) = if b == 44 then another (skip_blanks bs) else (if b == 125 then after_brace bs else no_object)

abbrev pub more_members : (List ℕ → Option (List Raw)) → Raw → Follows → Option (List Raw)
more_members again m (another bs) = option_map (λ ms. m ∷ ms) (again bs)
more_members again m the_end = Some (m ∷ [])
more_members again m no_object = None

-- the members from the front on; the number bounds them, for which the length of what is left is enough
unfoldable pub members_from : ℕ → ℕ → List ℕ → Option (List Raw)
members_from zero total bs = None
members_from (suc n) total bs = option_and_then (λ m. more_members (members_from n total) m.0 (what_follows m.1)) (member_part total bs)

abbrev pub no_members : List ℕ → Option (List Raw)
no_members bs = if length (skip_blanks bs) == 0 then Some [] else None

abbrev pub unless_closed : ℕ → List ℕ → Option (List ℕ) → Option (List Raw)
unless_closed total bs (Some rest) = no_members rest
unless_closed total bs None = members_from (length bs) total bs

-- the members behind the brace that opens the object
abbrev pub inside : ℕ → List ℕ → Option (List Raw)
inside total bs = unless_closed total bs (strip 125 bs)

abbrev pub raw_members : List ℕ → Option (List Raw)
raw_members text = option_and_then (λ bs. inside (length text) (skip_blanks bs)) (strip 123 (skip_blanks text))

-- a member and what follows one, as the program has them
abbrev pub raw_of : RawMember → Raw
raw_of m = record { name = m.name.now; start = m.start; «end» = m.end }

abbrev pub follows_of : program.Follows → Follows
follows_of (variant.Another rest) = another rest.now
follows_of variant.End = the_end
follows_of variant.NoObject = no_object

-- where another member follows, what is left is shorter than this
abbrev pub IsShorter : program.Follows → ℕ → Type 0
IsShorter (variant.Another rest) n = length rest.now < n
IsShorter variant.End n = Unit {0}
IsShorter variant.NoObject n = Unit {0}
