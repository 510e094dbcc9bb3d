-- What contracts see of a reader, and what its calls do.
use Rattle.std.specs.Prelude.{◌≡◌, ◌+◌, ◌-◌, ◌≤◌, true, false, Option, Some, None, List, [], length, take}
use Rattle.identity_io.specs.Causes.{Rose}
use Rattle.identity_source.specs.State.{PlainState}
use Rattle.identity_source.specs.History.{IsHistory, StartsWith, EndsWith, EachBegins, first_revision}
use Rattle.identity_source.specs.NamedList.{NamedList}
use Rattle.identity_source.specs.Sight.{Sight, PlanGoes, MissedBy, MissedWithin, Learned, longer, will_miss}
use Rattle.identity_source.specs.declared.window.Missed.{Missed as Missed_why}
use Rattle.identity_source.specs.declared.window.Missed.TheVariants.{NoGuard}
use Rattle.identity_source.specs.declared.kept_reader.Look.{Look}
use Rattle.identity_source.specs.declared.kept_reader.Look.TheVariants.{Looked, Missed}

-- its window, its list, and how its last call of `current` came to its answer. Definitions tie the list to those of receipts; that it is a beginning of
-- the source's own list the steps that both take at the published copies keep
pub record PlainReader : Type 0 where
  pub sight : Sight
  pub list : List PlainState
  pub look : Option Look

-- a reader as `open` hands it out: its list is the source's, and it was asked nothing yet
pub record IsFresh (source : NamedList) (r : PlainReader) : Type 0 where
  pub name : r.sight.name ≡ source.name
  pub list : r.list ≡ source.list
  pub seen : r.sight.seen ≡ source.list
  pub olds : r.sight.olds ≡ []
  pub looks : r.sight.looks ≡ 0
  pub misses : r.sight.misses ≡ 0
  pub refused : r.sight.refused ≡ 0
  pub plan : r.sight.plan ≡ None
  pub look : r.look ≡ None

-- the window gave the last state of all that it has seen, which begins with each list that the reader was told of; of its counts that of looks alone rose
pub record LookedAt (a b : PlainReader) : Type 0 where
  pub live : a.sight.is_live ≡ true
  pub rose : Rose a.sight.looks b.sight.looks
  pub misses : b.sight.misses ≡ a.sight.misses
  pub refused : b.sight.refused ≡ a.sight.refused
  pub whole : b.list ≡ b.sight.seen
  pub told : EachBegins b.list a.sight.olds

-- the window missed, and the list stays
pub record MissedAt (a b : PlainReader) (missed : Missed_why) : Type 0 where
  pub why : MissedBy a.sight b.sight missed
  pub same : b.list ≡ a.list

abbrev pub LookSays : PlainReader → PlainReader → Option Look → Type 0
LookSays a b None = ⊥
LookSays a b (Some Looked) = LookedAt a b
LookSays a b (Some (Missed missed)) = MissedAt a b missed

-- a look misses where that is planned, and a miss that isn't planned is one of the window within
pub record Planned (a b : PlainReader) : Type 0 where
  pub goes : PlanGoes a.sight.plan b.sight.plan
  pub misses : will_miss a.sight ≡ true → b.look ≡ Some (Missed NoGuard)
  pub passes : will_miss a.sight ≡ false → b.look ≡ Some (Missed NoGuard) → MissedWithin a.sight.plan b.sight.plan

-- what `current` does to the reader: its name and what it was told of stay, its list goes on or stays, and `look` says why; the list is a history
-- from the source's first revision
pub record Renewed (a b : PlainReader) : Type 0 where
  pub name : b.sight.name ≡ a.sight.name
  pub is_live : b.sight.is_live ≡ a.sight.is_live
  pub olds : b.sight.olds ≡ a.sight.olds
  pub look : LookSays a b b.look
  pub planned : Planned a b
  pub begins : StartsWith b.list a.list
  pub history : IsHistory b.list
  pub first : first_revision b.list ≡ b.sight.name.first

-- the reader was told of a list: the longer of the two becomes its own, and what begins with all that it was told of begins with its own list of before
pub record Told (a b : PlainReader) (told : List PlainState) : Type 0 where
  pub name : b.sight.name ≡ a.sight.name
  pub is_live : b.sight.is_live ≡ a.sight.is_live
  pub looks : b.sight.looks ≡ a.sight.looks
  pub misses : b.sight.misses ≡ a.sight.misses
  pub refused : b.sight.refused ≡ a.sight.refused
  pub list : b.list ≡ longer a.list told
  pub look : b.look ≡ a.look
  pub learned : Learned a.sight b.sight told
  pub keeps : a.sight.is_live ≡ true → (xs : List PlainState) → EachBegins xs b.sight.olds → StartsWith xs a.list

-- the receipt's list where the kept state came from one, else the part of the window's list that ends in the kept state
abbrev pub list_up_to : Sight → PlainState → Option NamedList → List PlainState
list_up_to s x (Some h) = h.list
list_up_to s x None = take (x.revision + 1 - s.name.first) s.seen

abbrev pub plain_reader : Sight → PlainState → Option NamedList → Option Look → PlainReader
plain_reader s x told look = record { sight = s; list = list_up_to s x told; look = look }

-- a reader's parts fit: its window, the state that it keeps, and the receipt that this came from
pub record IsReader (s : Sight) (x : PlainState) (told : Option NamedList) : Type 0 where
  pub seen : IsHistory s.seen
  pub first : first_revision s.seen ≡ s.name.first
  pub history : IsHistory (list_up_to s x told)
  pub own : first_revision (list_up_to s x told) ≡ s.name.first
  pub last : EndsWith (list_up_to s x told) x
  pub within : told ≡ None → x.revision + 1 ≤ s.name.first + length s.seen
  pub known : s.is_live ≡ true → (xs : List PlainState) → EachBegins xs s.olds → StartsWith xs s.seen → StartsWith xs (list_up_to s x told)
