-- What a pane keeps of its glances and of what it was told.
use Rattle.std.specs.Prelude.{◌≡◌, ℕ, Bool, Option, Some, None, List, [], ◌∷◌}
use Rattle.identity_source.specs.State.{PlainState}
use Rattle.identity_source.specs.History.{IsHistory, StartsWith, EachBegins, first_revision}
use Rattle.identity_source.specs.Rule.{Knows}
use Rattle.identity_source.specs.NamedList.{NamedList, SourceName}
use Rattle.identity_source.specs.Sight.{Sight, longer}
use Rattle.identity_source.specs.declared.window.Missed.{Missed}
use Rattle.identity_source.specs.declared.window.Missed.TheVariants.{NoPlace, NoGuard, OutOfMemory}

-- a memo has the list that was seen, and then the olds
abbrev pub seen_of : List (List PlainState) → List PlainState
seen_of [] = []
seen_of (x ∷ xs) = x

abbrev pub olds_of : List (List PlainState) → List (List PlainState)
olds_of [] = []
olds_of (x ∷ xs) = xs

-- the memo after a list was seen, or told
abbrev pub noted_seen : List (List PlainState) → NamedList → List (List PlainState)
noted_seen memo x = x.list ∷ olds_of memo

abbrev pub noted_told : List (List PlainState) → NamedList → List (List PlainState)
noted_told memo r = longer (seen_of memo) r.list ∷ seen_of memo ∷ r.list ∷ olds_of memo

abbrev pub sight_of : SourceName → List (List PlainState) → ℕ → ℕ → ℕ → Bool → Sight
sight_of name memo looks misses refused live = record {
  name = name;
  seen = seen_of memo;
  olds = olds_of memo;
  looks = looks;
  misses = misses;
  refused = refused;
  is_live = live;
  plan = None;
}

-- what a glance that gave no state did to what the reader knows
abbrev pub Glanced : Option NamedList → Option NamedList → Missed → Type 0
Glanced v w NoPlace = ⊥
Glanced v w NoGuard = w ≡ v
Glanced v w OutOfMemory = (x : NamedList) × (w ≡ Some x) × Knows x v

-- the list begins with what was told
abbrev pub Heeds : NamedList → Option NamedList → Type 0
Heeds x None = Unit {0}
Heeds x (Some r) = StartsWith x.list r.list

abbrev pub Named : SourceName → Option NamedList → Type 0
Named n None = ⊥
Named n (Some h) = h.name ≡ n

abbrev pub MayBeNamed : SourceName → Option NamedList → Type 0
MayBeNamed n None = Unit {0}
MayBeNamed n (Some h) = h.name ≡ n

-- what a pane's reader knows, and what it was told of since it last looked
pub record Bound (name : SourceName) (memo : List (List PlainState)) (told v : Option NamedList) : Type 0 where
  pub history : IsHistory (seen_of memo)
  pub first : first_revision (seen_of memo) ≡ name.first
  pub named : Named name v
  pub told_named : MayBeNamed name told
  pub known : (x : NamedList) → Knows x v → Heeds x told → EachBegins x.list (olds_of memo) × StartsWith x.list (seen_of memo)

abbrev pub Fits : SourceName → List (List PlainState) → Option NamedList → Option (Option NamedList) → Type 0
Fits name memo told None = IsHistory (seen_of memo) × (first_revision (seen_of memo) ≡ name.first)
Fits name memo told (Some v) = Bound name memo told v

-- the later of two marks
abbrev pub Later : Option NamedList → NamedList → NamedList → Type 0
Later old new r = (r.name ≡ new.name) × ((x : NamedList) → StartsWith x.list r.list → Heeds x old × StartsWith x.list new.list)

-- a pane that has seen this list alone, and has counted nothing
pub record IsFreshSight (h : NamedList) (s : Sight) : Type 0 where
  pub name : s.name ≡ h.name
  pub seen : s.seen ≡ h.list
  pub olds : s.olds ≡ []
  pub looks : s.looks ≡ 0
  pub misses : s.misses ≡ 0
  pub refused : s.refused ≡ 0
  pub plan : s.plan ≡ None
