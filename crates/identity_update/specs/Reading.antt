-- What the text of an update means: the update that it lawfully writes, or the first rule that it breaks.
use Rattle.std.specs.Prelude.{◌≡◌, ℕ, ◌<◌, ◌≤◌, true, List, length, Ok, Err}
use Rattle.base64_alphabet.specs.Standard.{standard_padded}
use Rattle.base64ct.specs.Lines.{IsWrappedText}
use Rattle.base64_text.specs.declared.errors.Error.TheVariants as base64
use Rattle.der_core.specs.Decode.{NoFront, Trails}
use Rattle.der_core.specs.declared.error.Error.{Error}
use Rattle.der_core.specs.declared.error.Error.TheVariants as der
use Rattle.update_document.specs.Written.{ReadsUpdate, WrittenUpdate}
use Rattle.identity_update.specs.Parts.{UpdateParts}
use Rattle.identity_update.specs.Verdict.{verdict}
use Rattle.identity_update.specs.declared.error.UpdateError.{UpdateError}
use Rattle.identity_update.specs.declared.error.UpdateError.TheVariants.{Document, OutOfMemory, RevisionsUsedUp, Text}

-- the text is lines of this width whose join is the canonical padded Base64 of the bytes (RFC 4648, section 4)
abbrev pub WritesBytes : ℕ → List ℕ → List ℕ → Type 0
WritesBytes width text bytes = IsWrappedText standard_padded width text bytes

-- the width and the length of a text in lines
abbrev pub HasLength : ℕ → List ℕ → Type 0
HasLength width text = (4 ≤ width) × (0 < length text)

-- the text writes a document of these
pub record WritesDocument (width : ℕ) (text : List ℕ) (written : WrittenUpdate) : Type 0 where
  pub has : HasLength width text
  pub bytes : List ℕ
  pub are : WritesBytes width text bytes
  pub document : ReadsUpdate bytes written

-- the text lawfully writes the update at this width
pub record Writes (width : ℕ) (text : List ℕ) (u : UpdateParts) : Type 0 where
  pub written : WrittenUpdate
  pub document : WritesDocument width text written
  pub lawful : verdict written ≡ Ok u

-- why bytes are no update document: one ends before they do, or none is at their front
abbrev pub IsNoDocument : List ℕ → Error → Type 0
IsNoDocument bytes der.Malformed = NoFront ReadsUpdate bytes
IsNoDocument bytes (der.TrailingData decoded remaining) = Trails ReadsUpdate bytes decoded remaining
IsNoDocument bytes _ = ⊥

-- the text breaks the rule
abbrev pub BreaksRule : ℕ → List ℕ → UpdateError → Type 0
BreaksRule width text e = (written : WrittenUpdate) × WritesDocument width text written × (verdict written ≡ Err e)

-- the error is the first rule that the text breaks at this width, or want of memory, which is free
abbrev pub Refuses : ℕ → List ℕ → UpdateError → Type 0
Refuses width text RevisionsUsedUp = ⊥
Refuses width text (Text base64.InvalidLength) = HasLength width text → ⊥
Refuses width text (Text base64.InvalidEncoding) = HasLength width text × ((bytes : List ℕ) → WritesBytes width text bytes → ⊥)
Refuses width text (Text base64.OutOfMemory) = ⊥
Refuses width text (Document cause) = HasLength width text × ((bytes : List ℕ) × WritesBytes width text bytes × IsNoDocument bytes cause)
Refuses width text OutOfMemory = Unit {0}
Refuses width text e = BreaksRule width text e

-- why no bytes are read from a text
abbrev pub IsTextRefusal : ℕ → List ℕ → UpdateError → Type 0
IsTextRefusal width text (Text base64.InvalidLength) = HasLength width text → ⊥
IsTextRefusal width text (Text base64.InvalidEncoding) = HasLength width text × ((bytes : List ℕ) → WritesBytes width text bytes → ⊥)
IsTextRefusal width text OutOfMemory = Unit {0}
IsTextRefusal width text _ = ⊥

-- why no document is read from bytes
abbrev pub IsDocumentRefusal : List ℕ → UpdateError → Type 0
IsDocumentRefusal bytes (Document cause) = IsNoDocument bytes cause
IsDocumentRefusal bytes OutOfMemory = Unit {0}
IsDocumentRefusal bytes _ = ⊥
