-- The update document: SEQUENCE { identities SEQUENCE OF Identity, bundles SEQUENCE OF Bundle, reason 80 OPTIONAL }.
use Rattle.std.specs.Prelude.{◌≡◌, ℕ, ◌≤◌, List, [], length, Option, Some, None}
use Rattle.std.specs.Str.{IsUtf8}
use Rattle.der_core.specs.Decode.{ReadsTagged}
use Rattle.der_core.specs.Sequence.{Then}
use Rattle.update_document.specs.Elements.{ReadsList}

-- a text of 1 to 255 bytes
pub record IsReasonText (text : List ℕ) : Type 0 where
  pub utf8 : IsUtf8 text
  pub some : 1 ≤ length text
  pub short : length text ≤ 255

abbrev pub HasReason : List ℕ → List ℕ → Type 0
HasReason content text = (content ≡ text) × IsReasonText text

-- the reason under the tag 80, where there is one, and nothing after it
abbrev pub ReadsReason : Option (List ℕ) → List ℕ → Type 0
ReadsReason None = λ bytes. bytes ≡ []
ReadsReason (Some text) = λ bytes. ReadsTagged 128 HasReason bytes text

-- the fields of a document, over what its entries and bundles read as
abbrev pub DocumentContent : {E B : Type 0} → (List ℕ → E → Type 0) → (List ℕ → B → Type 0) → List ℕ → List E → List B → Option (List ℕ) → Type 0
DocumentContent ReadsE ReadsB bytes entries bundles reason =
    Then (ReadsList ReadsE) (λ after. Then (ReadsList ReadsB) (ReadsReason reason) after bundles) bytes entries

-- what a document holds, over what its entries and bundles are
pub record DocumentOf (E B : Type 0) : Type 0 where
  pub entries : List E
  pub bundles : List B
  pub reason : Option (List ℕ)

-- the bytes are a document of these
abbrev pub ReadsDocument : {E B : Type 0} → (List ℕ → E → Type 0) → (List ℕ → B → Type 0) → List ℕ → DocumentOf E B → Type 0
ReadsDocument ReadsE ReadsB = ReadsTagged 48 (λ content d. DocumentContent ReadsE ReadsB content d.entries d.bundles d.reason)
