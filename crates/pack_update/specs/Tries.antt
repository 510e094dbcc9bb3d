-- What a call that tries rules over a disk gives and leaves.
use Rattle.std.specs.Prelude.{◌≡◌, ℕ, ◌≤◌, Option, Result, IfErr}
use Rattle.std.specs.Option.{ForSome}
use Rattle.identity_io.specs.Causes.{Rose}
use Rattle.pack_update.specs.Packed.{Files}
use Rattle.pack_update.specs.Rules.{Gives}
use Rattle.pack_update.specs.declared.error.PackError.{PackError}
use Rattle.pack_update.specs.declared.error.PackError.TheVariants.{Fault}

-- what the rules may be answered where the files are told, with the files and the count of faults before and after
pub record Tries {V A : Type 0} (plain : V → A) (Rules : Files → Result A PackError → Type 0) (old new : Option Files) (before now : ℕ)
    (result : Result V PackError) : Type 0 where
  pub told : ForSome old (λ files. Gives plain (Rules files) result)
  pub kept : new ≡ old
  pub later : before ≤ now
  pub fault : IfErr result (λ e. e ≡ Fault → Rose before now)
