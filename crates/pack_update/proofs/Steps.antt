-- Rules one after another, as calls give them.
use Rattle.std.proofs.Common.{◌≡◌, ◌≤◌, ◌⊎◌, ℕ, ◌+◌, List, [], ◌∷◌, ◌++◌, Result, Ok, Err, refl, sym, ap, subst, ◌∙◌, inl, inr, append_assoc, arith}
use Rattle.std.specs.declared.option.Option.{Option}
use Rattle.std.proofs.lemmas.List.{append-nil}
use Rattle.identity_io.specs.Causes.{Rose}
use Rattle.pack_update.specs.Packed.{Files}
use Rattle.pack_update.specs.Rules.{Each, Gives, Mapped, Then}
use Rattle.pack_update.specs.Tries.{Tries}
use Rattle.pack_update.specs.declared.error.PackError.{PackError}

module _ {A B V W : Type 0} (p : V → A) (q : W → B) (First : Result A PackError → Type 0) (Next : A → Result B PackError → Type 0) where
  stops : (e : PackError) → Gives p First (Err e) → Gives q (Then First Next) (Err e)
  stops e (inl h) = inl h
  stops e (inr h) = inr (inl h)

  goes_on : (v : V) → Gives p First (Ok v) → (r : Result W PackError) → Gives q (Next (p v)) r → Gives q (Then First Next) r
  goes_on v first (Ok w) next = (p v, first, next)
  goes_on v first (Err e) (inl h) = inl h
  goes_on v first (Err e) (inr h) = inr (inr (p v, first, h))

-- a rule about no file
pub pure : {V A : Type 0} (p : V → A) (Rule : Result A PackError → Type 0) (told : Option Files) (faults : ℕ) (r : Result V PackError) → Gives p Rule r
    → ((e : PackError) → r ≡ Err e → e ≡ PackError.Fault → ⊥) → Tries p (λ _. Rule) told told faults faults r
pure p Rule told faults (Ok v) gives none = record { told = λ files is. gives; kept = refl; later = omega arith; fault = tt }
pure p Rule told faults (Err e) gives none = record { told = λ files is. gives; kept = refl; later = omega arith; fault = λ is. absurd (none e refl is) }

module _ {A B V W : Type 0} (p : V → A) (q : W → B) (First : Files → Result A PackError → Type 0) (Next : Files → A → Result B PackError → Type 0) where
  -- the first rule refuses
  pub refused : {old new : Option Files} {before now : ℕ} (e : PackError) → Tries p First old new before now (Err e)
      → Tries q (λ files. Then (First files) (Next files)) old new before now (Err e)
  refused e t = record { told = λ files is. stops p q (First files) (Next files) e (t.told files is); kept = t.kept; later = t.later; fault = t.fault }

  -- the first rule holds, and the next is tried with its value
  pub held : {old mid new : Option Files} {before between now : ℕ} (v : V) (r : Result W PackError) → Tries p First old mid before between (Ok v)
      → Tries q (λ files. Next files (p v)) mid new between now r → Tries q (λ files. Then (First files) (Next files)) old new before now r
  held {old = old} {mid = mid} {new = new} {before = before} {between = between} {now = now} v (Ok w) t u = record {
    told = λ files is. goes_on p q (First files) (Next files) v (t.told files is) (Ok w) (u.told files (t.kept ∙ is));
    kept = u.kept ∙ t.kept;
    later = let a : before ≤ between = t.later in let b : between ≤ now = u.later in omega arith;
    fault = tt;
  }
  held {old = old} {mid = mid} {new = new} {before = before} {between = between} {now = now} v (Err e) t u = record {
    told = λ files is. goes_on p q (First files) (Next files) v (t.told files is) (Err e) (u.told files (t.kept ∙ is));
    kept = u.kept ∙ t.kept;
    later = let a : before ≤ between = t.later in let b : between ≤ now = u.later in omega arith;
    fault = λ is. let a : before ≤ between = t.later in let b : Rose between now = u.fault is in omega arith;
  }

-- a rule whose value is seen by `f`
module _ {A B V W : Type 0} (p : V → A) (q : W → B) (f : A → B) (Rules : Files → Result A PackError → Type 0) where
  pub mapped_error : {old new : Option Files} {before now : ℕ} (e : PackError) → Tries p Rules old new before now (Err e)
      → Tries q (λ files. Mapped f (Rules files)) old new before now (Err e)
  mapped_error e t = record { told = t.told; kept = t.kept; later = t.later; fault = t.fault }

  pub mapped_value : {old new : Option Files} {before now : ℕ} (v : V) (w : W) → Tries p Rules old new before now (Ok v) → q w ≡ f (p v)
      → Tries q (λ files. Mapped f (Rules files)) old new before now (Ok w)
  mapped_value v w t is = record { told = λ files told. (p v, t.told files told, is); kept = t.kept; later = t.later; fault = tt }

-- the answers to the rules of the items so far, before those that are left: what is answered to these is answered to all
pub record Progress {X A : Type 0} (Rule : ℕ → X → Result A PackError → Type 0) (xs : List X) (found : List A) (n : ℕ) (rest : List X) : Type 0 where
  pub done : (more : List A) → Each Rule n rest (Ok more) → Each Rule 0 xs (Ok (found ++ more))
  pub refused : (e : PackError) → Each Rule n rest (Err e) → Each Rule 0 xs (Err e)

module _ {X A : Type 0} (Rule : ℕ → X → Result A PackError → Type 0) (xs : List X) where
  pub begun : Progress Rule xs [] 0 xs
  begun = record { done = λ more h. h; refused = λ e h. h }

  pub one_done : (found : List A) (n : ℕ) (x : X) (rest : List X) (a : A) → Progress Rule xs found n (x ∷ rest) → Rule n x (Ok a)
      → Progress Rule xs (found ++ a ∷ []) (n + 1) rest
  one_done found n x rest a before h = record {
    done = λ more others. subst (λ (l : List A). Each Rule 0 xs (Ok l)) (sym (append_assoc found (a ∷ []) more))
        (before.done (a ∷ more) (a, h, (more, others, refl)));
    refused = λ e others. before.refused e (inr (a, h, others));
  }

  pub one_refused : (found : List A) (n : ℕ) (x : X) (rest : List X) (e : PackError) → Progress Rule xs found n (x ∷ rest) → Rule n x (Err e)
      → Each Rule 0 xs (Err e)
  one_refused found n x rest e before h = before.refused e (inl h)

  pub all_done : (found : List A) (n : ℕ) → Progress Rule xs found n [] → Each Rule 0 xs (Ok found)
  all_done found n before = subst (λ (l : List A). Each Rule 0 xs (Ok l)) (append-nil found) (before.done [] refl)
