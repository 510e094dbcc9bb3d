-- The law that a manifest is packed to one answer.
use Rattle.std.specs.Prelude.{◌≡◌, ◌≢◌, ℕ, List, Result, Ok, Err}
use Rattle.identity_update.specs.Parts.{UpdateParts}
use Rattle.pack_update.specs.Packed.{Files, Packed}
use Rattle.pack_update.specs.declared.error.PackError.{PackError}
use Rattle.pack_update.specs.declared.error.PackError.TheVariants.{Fault}

-- an answer that is no fault of the disk
abbrev pub IsNoFault : {A : Type 0} → Result A PackError → Type 0
IsNoFault (Ok a) = Unit {0}
IsNoFault (Err e) = e ≢ Fault

-- two answers to a manifest at one path and width are the same, where neither is a fault of the disk
abbrev pub PackedIsOneAnswer : Type 0
PackedIsOneAnswer =
    (files : Files) (manifest : List ℕ) (width : ℕ) (r s : Result UpdateParts PackError) → Packed files manifest width r → Packed files manifest width s
    → IsNoFault r → IsNoFault s → r ≡ s
