-- The text of an update.
use Rattle.std.specs.Prelude.{ℕ, ◌<◌, List, true}
use Rattle.base64_alphabet.specs.Encoding.{encoding_of}
use Rattle.base64_alphabet.specs.Standard.{standard_padded}
use Rattle.base64ct.specs.Wrapping.{wrapped}
use Rattle.base64_text.specs.declared.errors.Error.{Error}
use Rattle.base64_text.specs.declared.errors.Error.TheVariants.{InvalidEncoding, InvalidLength, OutOfMemory}
use Rattle.base64ct.specs.declared.line_ending.LineEnding.{LineEnding}
use Rattle.identity_update.specs.Canonical.{update_der}
use Rattle.identity_update.specs.Parts.{UpdateParts}

-- the canonical padded Base64 of the bytes (RFC 4648, section 4), in lines of this width that this ending parts
abbrev pub text_of : ℕ → LineEnding → List ℕ → List ℕ
text_of width ending bytes = wrapped width ending (encoding_of standard_padded bytes)

-- the text of the update's one document
abbrev pub update_text : ℕ → LineEnding → UpdateParts → List ℕ
update_text width ending u = text_of width ending (update_der u)

-- why no text is written: its lines are too narrow, or memory ran out, which is free
abbrev pub IsWriteRefusal : ℕ → Error → Type 0
IsWriteRefusal width InvalidEncoding = ⊥
IsWriteRefusal width InvalidLength = width < 4
IsWriteRefusal width OutOfMemory = Unit {0}
