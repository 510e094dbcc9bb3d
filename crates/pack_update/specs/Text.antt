-- The text that a manifest is packed to.
use Rattle.std.specs.Prelude.{◌≡◌, ◌⊎◌, ℕ, List, Option, Result, Ok, Err, String, string_bytes}
use Rattle.std.specs.Global.{Global}
use Rattle.std.specs.Option.{ForSome}
use Rattle.base64ct.specs.declared.line_ending.LineEnding.{LineEnding}
use Rattle.identity_update.specs.Parts.{UpdateParts}
use Rattle.identity_update.specs.Reading.{Writes}
use Rattle.identity_update.specs.Text.{update_text}
use Rattle.pack_update.specs.Packed.{Files, Packed}
use Rattle.pack_update.specs.declared.error.PackError.{PackError}
use Rattle.pack_update.specs.declared.error.PackError.TheVariants.{OutOfMemory}

-- the text of the update in lines of this width, which reads back as that update
pub record IsTextOf (width : ℕ) (ending : LineEnding) (u : UpdateParts) (text : List ℕ) : Type 0 where
  pub is : text ≡ update_text width ending u
  pub reads : Writes width text u

-- what packing answers: the text of the update that the manifest is packed to, or the first rule that is broken, or want of memory, which is free
abbrev pub Packs : Option Files → List ℕ → ℕ → LineEnding → Result (String Global) PackError → Type 0
Packs files manifest width ending (Ok text) =
    (u : UpdateParts) × IsTextOf width ending u (string_bytes text) × ForSome files (λ known. Packed known manifest width (Ok u))
Packs files manifest width ending (Err e) = ForSome files (λ known. (e ≡ OutOfMemory) ⊎ Packed known manifest width (Err e))
