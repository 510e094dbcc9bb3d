-- Words for what a type reads, and for what is written of its values.
use Rattle.std.specs.Prelude.{◌≡◌, ℕ, ◌<◌, ◌^◌, List, length}
use Rattle.der_core.specs.Der.{IsValue}

-- what is read is one value of the profile
abbrev pub AreValues : {V : Type 0} → (List ℕ → V → Type 0) → Type 0
AreValues {V = V} Reads = (b : List ℕ) (v : V) → Reads b v → IsValue b

-- what is read is what is written of the value
abbrev pub AreWritten : {V : Type 0} → (List ℕ → V → Type 0) → (V → List ℕ) → Type 0
AreWritten {V = V} Reads encoding = (b : List ℕ) (v : V) → Reads b v → b ≡ encoding v

-- what is written of a value, in fewer than 2^32 bytes, is read as the value
abbrev pub AreReadBack : {V : Type 0} → (List ℕ → V → Type 0) → (V → List ℕ) → Type 0
AreReadBack {V = V} Reads encoding = (v : V) → length (encoding v) < 2 ^ 32 → Reads (encoding v) v
