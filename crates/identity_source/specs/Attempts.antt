-- The log of a source: each state is tried before it is published, and then it is done or given up.
use Rattle.std.specs.Prelude.{◌≡◌, ℕ, ◌+◌, true, false, cond, List, [], ◌∷◌, ◌++◌, length}
use Rattle.identity_source.specs.State.{PlainState}
use Rattle.identity_source.specs.History.{IsHistory}
use Rattle.identity_source.specs.declared.attempt.Attempt.{Attempt}

abbrev pub tried : PlainState → Attempt
tried s = record { state = s; done = false }

abbrev pub finished : PlainState → Attempt
finished s = record { state = s; done = true }

-- the states that are done, in order
abbrev pub committed : List Attempt → List PlainState
committed [] = []
committed (e ∷ es) = cond e.done (e.state ∷ committed es) (committed es)

-- the log ends where the state x was tried
pub record IsPublished (log : List Attempt) (x : PlainState) (len : ℕ) : Type 0 where
  pub before : List Attempt
  pub log_is : log ≡ before ++ tried x ∷ []
  pub length_is : len ≡ length log
  pub history : IsHistory (committed log ++ x ∷ [])

-- the log ends where the state x was tried, and is done; the length is the one up to where it was tried
pub record IsMark (log : List Attempt) (x : PlainState) (len : ℕ) : Type 0 where
  pub before : List Attempt
  pub log_is : log ≡ (before ++ tried x ∷ []) ++ finished x ∷ []
  pub length_is : len + 1 ≡ length log
  pub history : IsHistory (committed log)
