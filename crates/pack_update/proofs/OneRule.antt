-- Rules of one answer, and what is made of them.
use Rattle.std.proofs.Common.{◌≡◌, ◌⊎◌, ℕ, ◌+◌, List, [], ◌∷◌, Result, Ok, Err, refl, sym, ap, subst, ◌∙◌, inl, inr}
use Rattle.pack_update.specs.OneAnswer.{IsNoFault}
use Rattle.pack_update.specs.Rules.{Each, Is, Mapped, OrFault, RefusedAs, Then}
use Rattle.pack_update.specs.declared.error.PackError.{PackError}

abbrev pub value_or : {A E : Type 0} → A → Result A E → A
value_or default (Ok a) = a
value_or default (Err e) = default

abbrev pub error_or : {A E : Type 0} → E → Result A E → E
error_or default (Ok a) = default
error_or default (Err e) = e

abbrev pub HasValue : {A E : Type 0} → Result A E → Type 0
HasValue (Ok a) = Unit {0}
HasValue (Err e) = ⊥

-- a value is no refusal
pub apart : {A E : Type 0} (r s : Result A E) → r ≡ s → HasValue r → HasValue s
apart r s same has = subst HasValue same has

-- a rule has one answer
abbrev pub One : {A E : Type 0} → (Result A E → Type 0) → Type 0
One {A = A} {E = E} Rule = (r s : Result A E) → Rule r → Rule s → r ≡ s

-- a rule has one answer beside faults of the disk
abbrev pub OneBeside : {A : Type 0} → (Result A PackError → Type 0) → Type 0
OneBeside {A = A} Rule = (r s : Result A PackError) → Rule r → Rule s → IsNoFault r → IsNoFault s → r ≡ s

pub one_is : {A : Type 0} (expected : Result A PackError) → OneBeside (Is expected)
one_is expected r s h k p q = sym h ∙ k

pub is_one : {A E : Type 0} (expected : Result A E) → One (Is expected)
is_one expected r s h k = sym h ∙ k

module _ {A B : Type 0} (First : Result A PackError → Type 0) (Next : A → Result B PackError → Type 0) (first : OneBeside First)
    (next : (a : A) → OneBeside (Next a)) where
  moved : (a b : A) (r : Result B PackError) → First (Ok a) → First (Ok b) → Next b r → Next a r
  moved a b r h k there = subst (λ (x : A). Next x r) (ap (value_or a) (first (Ok b) (Ok a) k h tt tt)) there

  no_refusal : (a : A) (e : PackError) → First (Ok a) → First (Err e) → IsNoFault {A = A} (Err e) → ⊥
  no_refusal a e h k p = apart (Ok a) (Err e) (first (Ok a) (Err e) h k tt p) tt

  -- a rule and the next one
  pub one_then : OneBeside (Then First Next)
  one_then (Ok b) (Ok c) h k p q = next h.0 (Ok b) (Ok c) h.2 (moved h.0 k.0 (Ok c) h.1 k.1 k.2) tt tt
  one_then (Ok b) (Err e) h (inl k) p q = absurd (no_refusal h.0 e h.1 k q)
  one_then (Ok b) (Err e) h (inr k) p q = next h.0 (Ok b) (Err e) h.2 (moved h.0 k.0 (Err e) h.1 k.1 k.2) tt q
  one_then (Err e) (Ok b) (inl h) k p q = absurd (no_refusal k.0 e k.1 h p)
  one_then (Err e) (Ok b) (inr h) k p q = next h.0 (Err e) (Ok b) h.2 (moved h.0 k.0 (Ok b) h.1 k.1 k.2) p tt
  one_then (Err e) (Err g) (inl h) (inl k) p q = ap Err (ap (error_or e) (first (Err e) (Err g) h k p q))
  one_then (Err e) (Err g) (inl h) (inr k) p q = absurd (no_refusal k.0 e k.1 h p)
  one_then (Err e) (Err g) (inr h) (inl k) p q = absurd (no_refusal h.0 g h.1 k q)
  one_then (Err e) (Err g) (inr h) (inr k) p q = next h.0 (Err e) (Err g) h.2 (moved h.0 k.0 (Err g) h.1 k.1 k.2) p q

-- a rule whose value is seen by `f`
pub one_mapped : {A B : Type 0} (f : A → B) (Rule : Result A PackError → Type 0) → OneBeside Rule → OneBeside (Mapped f Rule)
one_mapped f Rule one (Ok b) (Ok c) h k p q = ap Ok (h.2 ∙ ap f (ap (value_or h.0) (one (Ok h.0) (Ok k.0) h.1 k.1 tt tt)) ∙ sym k.2)
one_mapped f Rule one (Ok b) (Err e) h k p q = absurd (apart (Ok h.0) (Err e) (one (Ok h.0) (Err e) h.1 k tt q) tt)
one_mapped f Rule one (Err e) (Ok b) h k p q = absurd (apart (Ok k.0) (Err e) (one (Ok k.0) (Err e) k.1 h tt p) tt)
one_mapped f Rule one (Err e) (Err g) h k p q = ap Err (ap (error_or e) (one (Err e) (Err g) h k p q))

-- the rule of each item
pub one_each : {X A : Type 0} (Rule : ℕ → X → Result A PackError → Type 0) → ((n : ℕ) (x : X) → OneBeside (Rule n x)) → (n : ℕ) (xs : List X)
    → OneBeside (Each Rule n xs)
one_each Rule one n [] = one_is (Ok [])
one_each Rule one n (x ∷ xs) =
    one_then (Rule n x) (λ a. Mapped (λ more. a ∷ more) (Each Rule (n + 1) xs)) (one n x)
    (λ a. one_mapped (λ more. a ∷ more) (Each Rule (n + 1) xs) (one_each Rule one (n + 1) xs))

-- a rule of a file that is read
pub one_or_fault : {A : Type 0} (Rule : Result A PackError → Type 0) → One Rule → OneBeside (OrFault Rule)
one_or_fault Rule one (Ok a) (Ok b) h k p q = one (Ok a) (Ok b) h k
one_or_fault Rule one (Ok a) (Err e) h (inl k) p q = absurd (q k)
one_or_fault Rule one (Ok a) (Err e) h (inr k) p q = one (Ok a) (Err e) h k
one_or_fault Rule one (Err e) (Ok a) (inl h) k p q = absurd (p h)
one_or_fault Rule one (Err e) (Ok a) (inr h) k p q = one (Err e) (Ok a) h k
one_or_fault Rule one (Err e) (Err g) (inl h) k p q = absurd (p h)
one_or_fault Rule one (Err e) (Err g) (inr h) (inl k) p q = absurd (q k)
one_or_fault Rule one (Err e) (Err g) (inr h) (inr k) p q = one (Err e) (Err g) h k

-- a rule whose refusal is seen by `f`
pub one_refused_as : {A C : Type 0} (f : C → PackError) (Rule : Result A C → Type 0) → One Rule → One (RefusedAs f Rule)
one_refused_as f Rule one (Ok a) (Ok b) h k = ap Ok (ap (value_or a) (one (Ok a) (Ok b) h k))
one_refused_as f Rule one (Ok a) (Err e) h k = absurd (apart (Ok a) (Err k.0) (one (Ok a) (Err k.0) h k.1) tt)
one_refused_as f Rule one (Err e) (Ok a) h k = absurd (apart (Ok a) (Err h.0) (one (Ok a) (Err h.0) k h.1) tt)
one_refused_as f Rule one (Err e) (Err g) h k = ap Err (h.2 ∙ ap f (ap (error_or h.0) (one (Err h.0) (Err k.0) h.1 k.1)) ∙ sym k.2)
