-- Rules that are tried in order, where what a rule may be answered is a relation: its value, or that it is broken.
use Rattle.std.specs.Prelude.{◌≡◌, ◌⊎◌, ℕ, ◌+◌, List, [], ◌∷◌, Result, Ok, Err}
use Rattle.pack_update.specs.declared.error.PackError.{PackError}
use Rattle.pack_update.specs.declared.error.PackError.TheVariants.{Fault, OutOfMemory}

-- the one answer of a rule
abbrev pub Is : {A E : Type 0} → Result A E → Result A E → Type 0
Is expected r = expected ≡ r

-- the next rule, which is tried with the value of the first where that holds
abbrev pub Then : {A B E : Type 0} → (Result A E → Type 0) → (A → Result B E → Type 0) → Result B E → Type 0
Then {A = A} First Next (Ok b) = (a : A) × First (Ok a) × Next a (Ok b)
Then {A = A} First Next (Err e) = First (Err e) ⊎ ((a : A) × First (Ok a) × Next a (Err e))

-- the same rule, with its value seen by `f`
abbrev pub Mapped : {A B E : Type 0} → (A → B) → (Result A E → Type 0) → Result B E → Type 0
Mapped {A = A} f Rule (Ok b) = (a : A) × Rule (Ok a) × (b ≡ f a)
Mapped f Rule (Err e) = Rule (Err e)

-- the rule of each item in their order, numbered from this number on
abbrev pub Each : {X A E : Type 0} → (ℕ → X → Result A E → Type 0) → ℕ → List X → Result (List A) E → Type 0
Each Rule n [] = Is (Ok [])
Each Rule n (x ∷ xs) = Then (Rule n x) (λ a. Mapped (λ more. a ∷ more) (Each Rule (n + 1) xs))

-- the same rule, with its refusal seen by `f`
abbrev pub RefusedAs : {A C E : Type 0} → (C → E) → (Result A C → Type 0) → Result A E → Type 0
RefusedAs f Rule (Ok a) = Rule (Ok a)
RefusedAs {C = C} f Rule (Err e) = (cause : C) × Rule (Err cause) × (e ≡ f cause)

-- the rule of a file that is read: the disk may fail, which ends the rules where the file stands
abbrev pub OrFault : {A : Type 0} → (Result A PackError → Type 0) → Result A PackError → Type 0
OrFault Rule (Ok a) = Rule (Ok a)
OrFault Rule (Err e) = (e ≡ Fault) ⊎ Rule (Err e)

-- a call gives what the rules may be answered, or memory is wanted, which is free
abbrev pub Gives : {V A : Type 0} → (V → A) → (Result A PackError → Type 0) → Result V PackError → Type 0
Gives plain Rule (Ok v) = Rule (Ok (plain v))
Gives plain Rule (Err e) = (e ≡ OutOfMemory) ⊎ Rule (Err e)
