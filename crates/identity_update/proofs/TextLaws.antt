-- What a refused text is refused for.
use Rattle.std.proofs.Common.{◌≡◌, ℕ, ◌+◌, ◌<◌, ◌^◌, true, List, length, map, Option, Some, refl, arith, inl, inr}
use Rattle.base64_alphabet.specs.Standard.{standard_padded}
use Rattle.base64ct.specs.Items.{IsAppendError, IsWrapError}
use Rattle.base64_text.specs.declared.errors.Error.{Error}
use Rattle.base64_text.specs.declared.errors.Error.TheVariants as base64
use Rattle.identity_update.specs.Reading.{HasLength, IsTextRefusal, WritesBytes}
use Rattle.identity_update.specs.UpdateError.{text_error}

-- why a decoder can't be made of the text
pub wrap_refused : (width : ℕ) (text : List ℕ) (e : Error) → IsWrapError standard_padded width text e
    → (e ≡ base64.InvalidEncoding → (b : List ℕ) → WritesBytes width text b → ⊥) → IsTextRefusal width text (text_error e)
wrap_refused width text base64.InvalidLength err none = λ has. elim err [ inl short ↦ omega arith | inr empty ↦ omega arith ]
wrap_refused width text base64.InvalidEncoding err none = ((err.0, err.1), none refl)
wrap_refused width text base64.OutOfMemory err none = absurd err

-- why its bytes can't be had
pub append_refused : (width : ℕ) (text : List ℕ) (left : List (Option ℕ)) (n : ℕ) (e : Error) → HasLength width text → length left + n < 2 ^ 64
    → ((b : List ℕ) → WritesBytes width text b → left ≡ map Some b) → IsAppendError left n e
    → (e ≡ base64.InvalidEncoding → (b : List ℕ) → left ≡ map Some b → ⊥) → IsTextRefusal width text (text_error e)
append_refused width text left n base64.InvalidLength has small all err none = absurd (omega arith)
append_refused width text left n base64.InvalidEncoding has small all err none = (has, λ b writes. none refl b (all b writes))
append_refused width text left n base64.OutOfMemory has small all err none = tt
