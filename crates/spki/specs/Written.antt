-- Values that are read exactly where they are written so.
use Rattle.std.specs.Prelude.{◌≡◌, ℕ, ◌<◌, ◌^◌, List, length}

-- The bytes are the encoding of a lawful value.
pub record ReadsDer {P : Type 0} (der : P → List ℕ) (IsLawful : P → Type 0) (b : List ℕ) (v : P) : Type 0 where
  pub is : b ≡ der v
  pub fits : length b < 2 ^ 32
  pub lawful : IsLawful v
