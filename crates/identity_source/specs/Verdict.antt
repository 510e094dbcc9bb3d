-- What a text means after a revision: the next state, or why there is none.
use Rattle.std.specs.Prelude.{◌≡◌, ◌≢◌, ℕ, ◌+◌, ◌-◌, ◌^◌, List}
use Rattle.identity_update.specs.Reading.{Writes, Refuses}
use Rattle.identity_update.specs.declared.error.UpdateError.{UpdateError}
use Rattle.identity_update.specs.declared.error.UpdateError.TheVariants.{RevisionsUsedUp}
use Rattle.identity_source.specs.State.{PlainState}
use Rattle.identity_source.specs.History.{last_revision}
use Rattle.identity_source.specs.NamedList.{NamedList, appended}

-- the state of the next revision, with the update that the text lawfully writes at this width
pub record IsNextState (r width : ℕ) (text : List ℕ) (x : PlainState) : Type 0 where
  pub room : r ≢ 2 ^ 64 - 1
  pub revision : x.revision ≡ r + 1
  pub update : Writes width text x.update

-- the list grew by exactly that state, and nothing else changed
pub record Publishes (old new : NamedList) (width : ℕ) (text : List ℕ) : Type 0 where
  pub state : PlainState
  pub next : IsNextState (last_revision old.list) width text state
  pub list : new ≡ appended old state

-- the first rule that is broken: revisions are used up exactly where r is the largest, else a rule of the text; want of memory is free
abbrev pub RefusesNext : ℕ → ℕ → List ℕ → UpdateError → Type 0
RefusesNext r width text RevisionsUsedUp = r ≡ 2 ^ 64 - 1
RefusesNext r width text e = (r ≢ 2 ^ 64 - 1) × Refuses width text e
