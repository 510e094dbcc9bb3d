-- A word for what is written, of whatever type.
use Rattle.std.specs.Prelude.{◌≡◌, ℕ, List, Bool, true}

-- what is written of equal values is the same
abbrev pub AreWrittenAlike : {V : Type 0} → (V → V → Bool) → (V → List ℕ) → Type 0
AreWrittenAlike {V = V} equal encoding = (v w : V) → equal v w ≡ true → encoding v ≡ encoding w
