-- What ties the parts of a source.
use Rattle.std.specs.Prelude.{◌≡◌, ℕ, [], ◌∷◌}
use Rattle.round_log.specs.Logged.{Logged}
use Rattle.identity_source.specs.State.{PlainState, opening}
use Rattle.identity_source.specs.Attempts.{committed}
use Rattle.identity_source.specs.NamedList.{NamedList, named_list, IsListed}
use Rattle.identity_source.specs.declared.attempt.Attempt.{Attempt}

-- the states that are done in the log are the list of x, and the log's book is its name
pub record IsBase (x : NamedList) (log : Logged Attempt) : Type 0 where
  pub is : x ≡ named_list log.book (committed log.entries)
  pub listed : IsListed x

-- the published list is that of the last receipt, and of the log
pub record IsSource (x : NamedList) (log : Logged Attempt) (last : NamedList) : Type 0 where
  pub published : x ≡ last
  pub base : IsBase x log

-- the opening state is done
pub record IsStart (first : ℕ) (log : Logged Attempt) (mark published : NamedList) (state : PlainState) : Type 0 where
  pub list : mark.list ≡ opening first ∷ []
  pub base : IsBase mark log
  pub same : published ≡ mark
  pub state_is : state ≡ opening first
