-- Lists of states.
use Rattle.std.specs.Prelude.{◌≡◌, ℕ, ◌+◌, List, [], ◌∷◌, ◌++◌}
use Rattle.identity_source.specs.State.{PlainState, IsOpening, opening}

-- revisions go on by one from r, and no state is an opening one
abbrev pub Follows : ℕ → List PlainState → Type 0
Follows r [] = Unit {0}
Follows r (x ∷ xs) = (x.revision ≡ r + 1) × (IsOpening x → ⊥) × Follows (r + 1) xs

-- an opening state, which is the only one, and then a state for each update; revisions rise by one
abbrev pub IsHistory : List PlainState → Type 0
IsHistory [] = ⊥
IsHistory (x ∷ xs) = (x ≡ opening x.revision) × Follows x.revision xs

-- the list begins with what was seen
abbrev pub StartsWith : List PlainState → List PlainState → Type 0
StartsWith xs seen = (rest : List PlainState) × (xs ≡ seen ++ rest)

-- the last state of the list
abbrev pub EndsWith : List PlainState → PlainState → Type 0
EndsWith xs x = (before : List PlainState) × (xs ≡ before ++ x ∷ [])

-- the list begins with each of the lists
abbrev pub EachBegins : List PlainState → List (List PlainState) → Type 0
EachBegins xs [] = Unit {0}
EachBegins xs (old ∷ olds) = StartsWith xs old × EachBegins xs olds

-- the revision of the first state
abbrev pub first_revision : List PlainState → ℕ
first_revision [] = 0
first_revision (x ∷ xs) = x.revision

-- the revision of the last state, or r where there is none
abbrev pub last_from : ℕ → List PlainState → ℕ
last_from r [] = r
last_from r (x ∷ xs) = last_from x.revision xs

abbrev pub last_revision : List PlainState → ℕ
last_revision xs = last_from 0 xs
