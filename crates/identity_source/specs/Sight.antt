-- What contracts see of a window, and what its calls do.
use Rattle.std.specs.Prelude.{◌≡◌, ℕ, ◌+◌, ◌-◌, ◌^◌, ◌≤◌, min, Bool, true, false, ◌&&◌, cond, nat_eq, nat_le, Option, Some, None, List, ◌∷◌, length}
use Rattle.std.specs.List.{list_any}
use Rattle.identity_io.specs.Causes.{Rose}
use Rattle.identity_source.specs.State.{PlainState}
use Rattle.identity_source.specs.History.{IsHistory, StartsWith, EndsWith, EachBegins}
use Rattle.identity_source.specs.NamedList.{SourceName}
use Rattle.identity_source.specs.declared.window.Missed.{Missed}
use Rattle.identity_source.specs.declared.window.Missed.TheVariants.{NoPlace, NoGuard, OutOfMemory}

-- misses that are planned: the numbers of their looks, counted from 0, the number of the next look, and how many misses the window within has counted
pub record Plan : Type 0 where
  pub numbers : List ℕ
  pub next : ℕ
  pub within : ℕ

-- the source's name, the list that was seen, lists that it must begin with from the next look on, counts of looks, misses and refused shares, and
-- the misses that are planned, if this is a window of that kind
pub record Sight : Type 0 where
  pub name : SourceName
  pub seen : List PlainState
  pub olds : List (List PlainState)
  pub looks : ℕ
  pub misses : ℕ
  pub refused : ℕ
  pub is_live : Bool
  pub plan : Option Plan

abbrev pub is_planned : Option Plan → Bool
is_planned None = false
is_planned (Some p) = list_any (λ number. nat_eq number p.next) p.numbers

-- the next look is to miss, and the window is live
abbrev pub will_miss : Sight → Bool
will_miss s = is_planned s.plan && s.is_live

-- one look later
abbrev pub PlanGoes : Option Plan → Option Plan → Type 0
PlanGoes None None = Unit {0}
PlanGoes None (Some q) = ⊥
PlanGoes (Some p) None = ⊥
PlanGoes (Some p) (Some q) = (q.numbers ≡ p.numbers) × (q.next ≡ min (p.next + 1) (2 ^ 64 - 1))

-- the window within missed
abbrev pub MissedWithin : Option Plan → Option Plan → Type 0
MissedWithin None q = Unit {0}
MissedWithin (Some p) None = ⊥
MissedWithin (Some p) (Some q) = Rose p.within q.within

-- what entering never changes, and counts that don't fall
pub record Goes (a b : Sight) : Type 0 where
  pub name : b.name ≡ a.name
  pub is_live : b.is_live ≡ a.is_live
  pub looks : a.looks ≤ b.looks
  pub misses : a.misses ≤ b.misses
  pub refused : a.refused ≤ b.refused
  pub olds : b.olds ≡ a.olds
  pub plan : PlanGoes a.plan b.plan

-- a look that gave the state x, the last of a list that begins with all that was seen and told; of the counts that of looks alone rose
pub record Looked (a b : Sight) (x : PlainState) : Type 0 where
  pub live : a.is_live ≡ true
  pub rose : Rose a.looks b.looks
  pub misses : b.misses ≡ a.misses
  pub refused : b.refused ≡ a.refused
  pub more : StartsWith b.seen a.seen
  pub all : EachBegins b.seen a.olds
  pub last : EndsWith b.seen x
  pub history : IsHistory b.seen

-- a live window found no state, and its list may have grown: of two counts the first rose and the second stays, as that of looks does
pub record MissedLive (a b : Sight) (rising risen staying stayed : ℕ) : Type 0 where
  pub live : a.is_live ≡ true
  pub rose : Rose rising risen
  pub other : stayed ≡ staying
  pub looks : b.looks ≡ a.looks
  pub more : StartsWith b.seen a.seen
  pub history : IsHistory b.seen

-- a window without a place finds no state: of the counts that of misses alone rose
pub record MissedWithoutPlace (a b : Sight) : Type 0 where
  pub dead : a.is_live ≡ false
  pub rose : Rose a.misses b.misses
  pub looks : b.looks ≡ a.looks
  pub refused : b.refused ≡ a.refused
  pub same : b.seen ≡ a.seen

-- why a look missed
abbrev pub MissedBy : Sight → Sight → Missed → Type 0
MissedBy a b NoPlace = MissedWithoutPlace a b
MissedBy a b NoGuard = MissedLive a b a.misses b.misses a.refused b.refused
MissedBy a b OutOfMemory = MissedLive a b a.refused b.refused a.misses b.misses

-- the longer list, and the second where they are equally long
abbrev pub longer : List PlainState → List PlainState → List PlainState
longer xs ys = cond (nat_le (length xs) (length ys)) ys xs

-- a live window took the list in
pub record TookIn (a b : Sight) (list : List PlainState) : Type 0 where
  pub seen : b.seen ≡ longer a.seen list
  pub olds : b.olds ≡ a.seen ∷ list ∷ a.olds

pub record SameLists (a b : Sight) : Type 0 where
  pub seen : b.seen ≡ a.seen
  pub olds : b.olds ≡ a.olds

-- a receipt's list was told
pub record Learned (a b : Sight) (list : List PlainState) : Type 0 where
  pub name : b.name ≡ a.name
  pub is_live : b.is_live ≡ a.is_live
  pub looks : b.looks ≡ a.looks
  pub misses : b.misses ≡ a.misses
  pub refused : b.refused ≡ a.refused
  pub plan : b.plan ≡ a.plan
  pub live : a.is_live ≡ true → TookIn a b list
  pub dead : a.is_live ≡ false → SameLists a b

-- the same with a plan of misses and a count of its own
abbrev pub with_misses : Sight → List ℕ → ℕ → ℕ → Sight
with_misses s numbers next n = record s { misses = n; plan = Some (record { numbers = numbers; next = next; within = s.misses }) }
