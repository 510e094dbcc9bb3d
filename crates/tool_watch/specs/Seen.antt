-- The revisions that a reader gave one after another.
use Rattle.std.specs.Prelude.{◌≡◌, ℕ, ◌≤◌, List, [], ◌∷◌, length, vec_capacity, vec_len}
use Rattle.identity_source.specs.State.{PlainState}
use Rattle.tool_watch.specs.declared.working.Job.{Job}

-- they never fall, and none is below the first number
abbrev pub Rises : ℕ → List ℕ → Type 0
Rises least [] = Unit {0}
Rises least (r ∷ rs) = (least ≤ r) × Rises r rs

-- the last of them, or else the first number
abbrev pub last_of : ℕ → List ℕ → ℕ
last_of least [] = least
last_of least (r ∷ rs) = last_of r rs

-- so many of them
pub record IsSeen (least count : ℕ) (revisions : List ℕ) : Type 0 where
  pub many : length revisions ≡ count
  pub rise : Rises least revisions

-- a worker has seen nothing, and has room for so many revisions
pub record HasRoom (count : ℕ) (job : Job) : Type 0 where
  pub empty : vec_len job.seen ≡ 0
  pub room : count ≤ vec_capacity job.seen

-- besides, its reader has come to this list
pub record IsReady (list : List PlainState) (count : ℕ) (job : Job) : Type 0 where
  pub at : job.reader.list ≡ list
  pub room : HasRoom count job
