-- A state as contracts see it: a revision and an update.
use Rattle.std.specs.Prelude.{◌≡◌, ℕ, [], None}
use Rattle.identity_update.specs.Parts.{UpdateParts}

pub record PlainState : Type 0 where
  pub revision : ℕ
  pub update : UpdateParts

-- what an opening state has in place of an update: no entries, no bundles and no reason
abbrev pub no_update : UpdateParts
no_update = record { entries = []; bundles = []; reason = None }

abbrev pub opening : ℕ → PlainState
opening revision = record { revision = revision; update = no_update }

-- no update was applied: the state has neither entries nor a reason
pub record IsOpening (x : PlainState) : Type 0 where
  pub entries : x.update.entries ≡ []
  pub reason : x.update.reason ≡ None
