-- Claims whose time `nbf` (RFC 7519, section 4.1.5) is set apart: what is left of them is read as claims without it are.
use Rattle.std.specs.Prelude.{ℕ, ℤ, nat_eq, ◌-◌, ◌==◌, ◌||◌, ◌&&◌, List, [], ◌∷◌, ◌++◌, take, drop, Bool, false, Option, Some, None, option_map, codes}
use Rattle.std.specs.Prelude.{if◌then◌else◌}
use Rattle.std.specs.List.{find}
use Rattle.std.specs.Char.{is_ascii_digit}
use Rattle.std.specs.Cmp.Lexicographic.{pointwise}
use Rattle.spiffe_token.specs.Members.{Member, members_of}
use Rattle.spiffe_token.specs.Header.{is_once}
use Rattle.token_time.specs.Nanoseconds.{nanoseconds_of}

abbrev pub is_not_before : Member → Bool
is_not_before m = pointwise nat_eq m.name (codes "nbf")

abbrev pub begins_number : List ℕ → Bool
begins_number [] = false
begins_number (b ∷ bs) = b == 45 || is_ascii_digit b

-- the bytes from a place up to another one
abbrev pub piece : List ℕ → ℕ → ℕ → List ℕ
piece text from until = take (until - from) (drop from text)

-- a member `nbf` whose value begins like a number
abbrev pub is_time : List ℕ → Member → Bool
is_time text m = is_not_before m && begins_number (drop m.start text)

-- the text from a place on, in which `0` stands for the value of each such member
abbrev pub quiet_from : List ℕ → ℕ → List Member → List ℕ
quiet_from text from [] = drop from text
quiet_from text from (m ∷ ms) = if is_time text m then piece text from m.start ++ (48 ∷ quiet_from text m.«end» ms) else quiet_from text from ms

abbrev pub quiet_by : List ℕ → Option (List Member) → List ℕ
quiet_by text None = text
quiet_by text (Some ms) = quiet_from text 0 ms

-- claims with `0` for each value of a member `nbf` at their top that begins with `-` or a digit
unfoldable pub quiet : List ℕ → List ℕ
quiet claims = quiet_by claims (members_of claims)

abbrev pub time_at : List ℕ → Option Member → Option (Option ℤ)
time_at text None = Some None
time_at text (Some m) = option_map (λ t. Some t) (nanoseconds_of (piece text m.start m.«end»))

abbrev pub not_before_in : List ℕ → Option (List Member) → Option (Option ℤ)
not_before_in text None = Some None
not_before_in text (Some ms) = if is_once ms (codes "nbf") then time_at text (find is_not_before ms) else None

-- the time `nbf` of claims in nanoseconds, if they have one; none where it stands twice or is no such time
unfoldable pub not_before_of : List ℕ → Option (Option ℤ)
not_before_of claims = not_before_in claims (members_of claims)
