-- What is said of copies, comparisons and hashes of a type, over what its values are seen as.
use Rattle.std.specs.Prelude.{◌≡◌, ◌↔◌, Bool, true, Option, Some}
use Rattle.std.specs.Hash.{HashWrites}
use Rattle.std.specs.declared.cmp.Ordering.{Ordering}

-- a copy of a value is the value
abbrev pub AreCopiesSame : {V : Type 0} → (V → V → Type 0) → Type 0
AreCopiesSame {V = V} IsClone = (v copy : V) → IsClone v copy → copy ≡ v

-- values are equal exactly where they are seen as the same
abbrev pub AreEqualAs : {V P : Type 0} → (V → P) → (V → V → Bool) → Type 0
AreEqualAs {V = V} seen equal = (a b : V) → (equal a b ≡ true) ↔ (seen a ≡ seen b)

-- values are ordered as what they are seen as, and any two of them are
abbrev pub AreOrderedAs : {V P : Type 0} → (V → P) → (P → P → Ordering) → (V → V → Ordering) → (V → V → Option Ordering) → Type 0
AreOrderedAs {V = V} seen order cmp partial_cmp = (a b : V) → (cmp a b ≡ order (seen a) (seen b)) × (partial_cmp a b ≡ Some (order (seen a) (seen b)))

-- a hasher is fed what the value is seen as
abbrev pub AreHashedAs : {V P : Type 0} → (V → P) → (P → HashWrites) → (V → HashWrites) → Type 0
AreHashedAs {V = V} seen hashed hash_input = (v : V) → hash_input v ≡ hashed (seen v)
