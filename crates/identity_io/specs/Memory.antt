-- Sources and sinks over memory, as contracts see them.
use Rattle.std.specs.Prelude.{ℕ, ◌+◌, ◌-◌, ◌^◌, min, List}

-- a source: the bytes that are left, the numbers of the calls that fail, the most bytes of one call,
-- how many calls were made and how many of them failed
pub record Supply : Type 0 where
  pub left : List ℕ
  pub failing : List ℕ
  pub piece : ℕ
  pub calls : ℕ
  pub faults : ℕ

-- a sink: the bytes that were written, how many have room in all, and the rest as of a source
pub record Store : Type 0 where
  pub written : List ℕ
  pub room : ℕ
  pub failing : List ℕ
  pub piece : ℕ
  pub calls : ℕ
  pub faults : ℕ

-- a sink that fails only where it is full
pub record SureStore : Type 0 where
  pub written : List ℕ
  pub room : ℕ
  pub faults : ℕ

-- one more, or the same at the end of the type
abbrev pub one_more : ℕ → ℕ
one_more n = min (n + 1) (2 ^ 64 - 1)
