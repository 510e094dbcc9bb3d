-- A file has one public key, or is no key for one reason.
use Rattle.std.proofs.Common.{◌≡◌, ◌⊎◌, ℕ, ◌<◌, ◌≤◌, List, length, Option, Some, None, Result, Ok, Err, refl, sym, ap, subst, ◌∙◌, inl, inr, arith}
use Rattle.der_core.specs.Der.{IsValue}
use Rattle.der_core.specs.SequenceLaws.{ReadsOne}
use Rattle.der_core.specs.declared.error.Error.{Error as DerError}
use Rattle.der_core.specs.declared.error.Error.TheVariants as der
use Rattle.der_small.specs.KeyFiles.{NoDocument}
use Rattle.der_small.specs.OneValue.{IsOneValue}
use Rattle.identity_update.specs.Verdict.{map_refusal}
use Rattle.spki.specs.Answers.{ReadAnswer}
use Rattle.spki.specs.Error.{kind_of}
use Rattle.spki.specs.PlainPublicKey.{PlainPublicKey, ReadsPublicKey}
use Rattle.spki.specs.ReadLaws.{public_key_one_answer, read_one_answer}
use Rattle.spki.specs.declared.error.Error.{Error}
use Rattle.spki.specs.declared.error.Error.TheVariants as error
use Rattle.pack_update.proofs.OneRule.{One, apart, error_or}
use Rattle.pack_update.specs.FileError.{der_error}
use Rattle.pack_update.specs.KeyFiles.{ReadsPublicKeyFile}
use Rattle.pack_update.specs.declared.error.FileError.{FileError}
use Rattle.pack_update.specs.declared.error.FileError.TheVariants.{Missing, TooLong, Malformed, TrailingData}

abbrev Read : Type 0
Read = Result PlainPublicKey FileError

abbrev Seen : Type 0
Seen = Result PlainPublicKey Error

abbrev seen : Read → Seen
seen r = map_refusal (λ e. error.Asn1 (der_error e)) r

abbrev Answers : List ℕ → Seen → Type 0
Answers bytes (Ok key) = IsValue bytes × ReadAnswer ReadsPublicKey bytes (Ok key)
Answers bytes (Err e) = NoDocument bytes (kind_of e) ⊎ (IsValue bytes × ReadAnswer ReadsPublicKey bytes (Err e))

one_document : ReadsOne IsOneValue
one_document = record { value = λ b v h. h.one; one = λ b v w h k. h.is ∙ sym k.is }

-- bytes that are no document, as reading a document answers
no_document : (bytes : List ℕ) (e : Error) → NoDocument bytes (kind_of e) → ReadAnswer IsOneValue bytes (Err e)
no_document bytes (error.Asn1 der.Malformed) h = h
no_document bytes (error.Asn1 (der.TrailingData decoded remaining)) h = h
no_document bytes _ h = absurd h

same_document : (bytes : List ℕ) → One (ReadAnswer IsOneValue bytes)
same_document bytes = read_one_answer IsOneValue one_document bytes

no_value : (bytes : List ℕ) (e : Error) → NoDocument bytes (kind_of e) → IsValue bytes → ⊥
no_value bytes e h value = apart (Ok bytes) (Err e) (same_document bytes (Ok bytes) (Err e) (record { is = refl; one = value }) (no_document bytes e h)) tt

same_answer : (bytes : List ℕ) → One (Answers bytes)
same_answer bytes (Ok a) (Ok b) h k = public_key_one_answer bytes (Ok a) (Ok b) h.1 k.1
same_answer bytes (Ok a) (Err e) h (inl k) = absurd (no_value bytes e k h.0)
same_answer bytes (Ok a) (Err e) h (inr k) = public_key_one_answer bytes (Ok a) (Err e) h.1 k.1
same_answer bytes (Err e) (Ok a) (inl h) k = absurd (no_value bytes e h k.0)
same_answer bytes (Err e) (Ok a) (inr h) k = public_key_one_answer bytes (Err e) (Ok a) h.1 k.1
same_answer bytes (Err e) (Err g) (inl h) (inl k) = ap Err (ap (error_or e)
    (same_document bytes (Err e) (Err g) (no_document bytes e h) (no_document bytes g k)))
same_answer bytes (Err e) (Err g) (inl h) (inr k) = absurd (no_value bytes e h k.0)
same_answer bytes (Err e) (Err g) (inr h) (inl k) = absurd (no_value bytes g k h.0)
same_answer bytes (Err e) (Err g) (inr h) (inr k) = public_key_one_answer bytes (Err e) (Err g) h.1 k.1

abbrev file_of : DerError → FileError
file_of der.FileMissing = Missing
file_of der.FileTooLong = TooLong
file_of (der.TrailingData decoded remaining) = TrailingData decoded remaining
file_of _ = Malformed

abbrev back : Seen → Read
back (Ok key) = Ok key
back (Err (error.Asn1 e)) = Err (file_of e)
back (Err _) = Err Malformed

back_is : (r : Read) → back (seen r) ≡ r
back_is (Ok key) = refl
back_is (Err Missing) = refl
back_is (Err TooLong) = refl
back_is (Err Malformed) = refl
back_is (Err (TrailingData decoded remaining)) = refl

same_seen : (r s : Read) → seen r ≡ seen s → r ≡ s
same_seen r s same = sym (back_is r) ∙ ap back same ∙ back_is s

missing : (r : Read) → ReadsPublicKeyFile None r → r ≡ Err Missing
missing (Ok key) h = absurd h
missing (Err Missing) h = refl
missing (Err TooLong) h = absurd h
missing (Err Malformed) h = absurd h
missing (Err (TrailingData decoded remaining)) h = absurd h

-- a file that is there is too long, or its bytes are answered
data Found (bytes : List ℕ) (r : Read) : Type 0 where
  long : r ≡ Err TooLong → 16777216 < length bytes → Found bytes r
  whole : length bytes ≤ 16777216 → Answers bytes (seen r) → Found bytes r

no_none : (bytes : List ℕ) → Some bytes ≡ None → ⊥
no_none bytes h = cc

found : (bytes : List ℕ) (r : Read) → ReadsPublicKeyFile (Some bytes) r → Found bytes r
found bytes (Ok key) h = whole h.0 h.1
found bytes (Err Missing) h = absurd (no_none bytes h)
found bytes (Err TooLong) h = long refl h
found bytes (Err Malformed) h = whole h.0 h.1
found bytes (Err (TrailingData decoded remaining)) h = whole h.0 h.1

same_found : (bytes : List ℕ) (r s : Read) → Found bytes r → Found bytes s → r ≡ s
same_found bytes r s (long h _) (long k _) = h ∙ sym k
same_found bytes r s (long h above) (whole within k) = absurd (let no : ⊥ = omega (arith, above, within) in no)
same_found bytes r s (whole within h) (long k above) = absurd (let no : ⊥ = omega (arith, above, within) in no)
same_found bytes r s (whole within h) (whole _ k) = same_seen r s (same_answer bytes (seen r) (seen s) h k)

pub one_public_key : (file : Option (List ℕ)) → One (ReadsPublicKeyFile file)
one_public_key None r s h k = missing r h ∙ sym (missing s k)
one_public_key (Some bytes) r s h k = same_found bytes r s (found bytes r h) (found bytes s k)
