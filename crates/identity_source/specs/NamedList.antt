-- What contracts see of a source and of a receipt: the name of a source, and a list of states.
use Rattle.std.specs.Prelude.{◌≡◌, ℕ, List, [], ◌∷◌, ◌++◌}
use Rattle.logbook.specs.Pages.{Book}
use Rattle.identity_source.specs.State.{PlainState}
use Rattle.identity_source.specs.History.{IsHistory, first_revision}

-- the name of a source, which tells the first revision of each list under it; no number stands for it at run time
pub record SourceName : Type 0 where
  pub book : Book
  pub first : ℕ

pub record NamedList : Type 0 where
  pub name : SourceName
  pub list : List PlainState

abbrev pub named_list : Book → List PlainState → NamedList
named_list book list = record { name = record { book = book; first = first_revision list }; list = list }

-- the list with one more state, under the same name
abbrev pub appended : NamedList → PlainState → NamedList
appended s x = record { name = s.name; list = s.list ++ x ∷ [] }

-- a history under a name that tells its first revision
pub record IsListed (s : NamedList) : Type 0 where
  pub history : IsHistory s.list
  pub first : s.name.first ≡ first_revision s.list
