-- A text has one reading.
use Rattle.std.proofs.Common.{◌≡◌, ◌≢◌, ℕ, ◌<◌, true, List, Option, Some, None, Err, IfSome, refl, sym, ap, subst, ◌∙◌, inl, inr, arith}
use Rattle.base64_alphabet.specs.Standard.{standard_padded}
use Rattle.base64ct.specs.Lines.{IsWrappedText}
use Rattle.base64_text.specs.declared.errors.Error.TheVariants as base64
use Rattle.der_core.specs.declared.error.Error.{Error}
use Rattle.der_core.specs.declared.error.Error.TheVariants as der
use Rattle.der_core.specs.SequenceLaws.{no_front_of, no_trail_front, no_trail_of, same_trail}
use Rattle.update_document.specs.Document.{IsReasonText, ReadsReason}
use Rattle.update_document.specs.Written.{ReadsUpdate, WrittenUpdate}
use Rattle.update_document.proofs.OneLaws.{update_one}
use Rattle.identity_update.specs.Parts.{UpdateParts}
use Rattle.identity_update.specs.Reading.{BreaksRule, HasLength, IsNoDocument, Refuses, Writes, WritesBytes, WritesDocument}
use Rattle.identity_update.specs.Verdict.{IsRefusal, verdict}
use Rattle.identity_update.specs.declared.error.UpdateError.{UpdateError}
use Rattle.identity_update.specs.declared.error.UpdateError.TheVariants.{AlgorithmMismatch, Authorities, Document, Domain, MissingBundle, MissingRequiredField}
use Rattle.identity_update.specs.declared.error.UpdateError.TheVariants.{OutOfMemory, PublicKeyMismatch, RevisionsUsedUp, Subject, Text, WithdrawalWithEntries}
use Rattle.identity_update.proofs.RuleLaws.{IsRule, verdict_rules}

-- a text writes one list of bytes
abbrev pub WritesOne : Type 0
WritesOne = (width : ℕ) (text a b : List ℕ) → 0 < width → IsWrappedText standard_padded width text a → IsWrappedText standard_padded width text b → a ≡ b

same_bytes : (width : ℕ) (text a b : List ℕ) → WritesOne → HasLength width text → WritesBytes width text a → WritesBytes width text b → a ≡ b
same_bytes width text a b one has x y = let low : 0 < width = omega (arith, has.0) in one width text a b low x y

same_written : (width : ℕ) (text : List ℕ) (v w : WrittenUpdate) → WritesOne → WritesDocument width text v → WritesDocument width text w → v ≡ w
same_written width text v w one x y =
    let bytes = same_bytes width text x.bytes y.bytes one x.has x.are y.are in
    update_one.one y.bytes v w (subst (λ (b : List ℕ). ReadsUpdate b v) bytes x.document) y.document

pub one_update : (width : ℕ) (text : List ℕ) (u v : UpdateParts) → WritesOne → Writes width text u → Writes width text v → u ≡ v
one_update width text u v one x y =
    let same = ap verdict (same_written width text x.written y.written one x.document y.document) in
    let first = x.lawful in
    let second = y.lawful in
    cc

no_document : (bytes : List ℕ) (w : WrittenUpdate) (cause : Error) → ReadsUpdate bytes w → IsNoDocument bytes cause → ⊥
no_document bytes w der.Malformed r none = no_front_of ReadsUpdate bytes w r none
no_document bytes w (der.TrailingData decoded remaining) r t = no_trail_of ReadsUpdate update_one bytes w decoded remaining r t
no_document bytes w _ r none = none

same_cause : (bytes : List ℕ) (c d : Error) → IsNoDocument bytes c → IsNoDocument bytes d → c ≡ d
same_cause bytes der.Malformed der.Malformed x y = refl
same_cause bytes der.Malformed (der.TrailingData d r) x y = absurd (no_trail_front ReadsUpdate bytes d r x y)
same_cause bytes (der.TrailingData d r) der.Malformed x y = absurd (no_trail_front ReadsUpdate bytes d r y x)
same_cause bytes (der.TrailingData d r) (der.TrailingData d' r') x y =
    let same = same_trail ReadsUpdate update_one bytes d r d' r' x y in
    let with_decoded : ℕ → Error = λ n. der.TrailingData n r in
    let with_remaining : ℕ → Error = λ n. der.TrailingData d' n in
    ap with_decoded same.0 ∙ ap with_remaining same.1
same_cause bytes der.Malformed _ x y = absurd y
same_cause bytes (der.TrailingData d r) _ x y = absurd y
same_cause bytes _ d x y = absurd x

-- the kinds of refusals, want of memory aside
data Refusal (width : ℕ) (text : List ℕ) (e : UpdateError) : Type 0 where
  by_length : e ≡ Text base64.InvalidLength → (HasLength width text → ⊥) → Refusal width text e
  by_encoding : e ≡ Text base64.InvalidEncoding → HasLength width text → ((bytes : List ℕ) → WritesBytes width text bytes → ⊥) → Refusal width text e
  by_document : (cause : Error) (bytes : List ℕ) → e ≡ Document cause → HasLength width text → WritesBytes width text bytes → IsNoDocument bytes cause
      → Refusal width text e
  by_rule : (w : WrittenUpdate) → WritesDocument width text w → verdict w ≡ Err e → Refusal width text e

rule_refusal : (width : ℕ) (text : List ℕ) (e : UpdateError) → BreaksRule width text e → Refusal width text e
rule_refusal width text e (w, writes, is) = by_rule w writes is

refusal_of : (width : ℕ) (text : List ℕ) (e : UpdateError) → e ≢ OutOfMemory → Refuses width text e → Refusal width text e
refusal_of width text RevisionsUsedUp some r = absurd r
refusal_of width text (Text base64.InvalidLength) some r = by_length refl r
refusal_of width text (Text base64.InvalidEncoding) some r = by_encoding refl r.0 r.1
refusal_of width text (Text base64.OutOfMemory) some r = absurd r
refusal_of width text (Document cause) some (has, (bytes, are, none)) = by_document cause bytes refl has are none
refusal_of width text OutOfMemory some r = absurd (some refl)
refusal_of width text MissingRequiredField some r = rule_refusal width text MissingRequiredField r
refusal_of width text WithdrawalWithEntries some r = rule_refusal width text WithdrawalWithEntries r
refusal_of width text (Subject n cause) some r = rule_refusal width text (Subject n cause) r
refusal_of width text (AlgorithmMismatch n) some r = rule_refusal width text (AlgorithmMismatch n) r
refusal_of width text (PublicKeyMismatch n) some r = rule_refusal width text (PublicKeyMismatch n) r
refusal_of width text (Domain n cause) some r = rule_refusal width text (Domain n cause) r
refusal_of width text (Authorities n cause) some r = rule_refusal width text (Authorities n cause) r
refusal_of width text (MissingBundle n) some r = rule_refusal width text (MissingBundle n) r

writes_no_refusal : (width : ℕ) (text : List ℕ) (u : UpdateParts) (e : UpdateError) → WritesOne → Writes width text u → Refusal width text e → ⊥
writes_no_refusal width text u e one x (by_length is none) = none x.document.has
writes_no_refusal width text u e one x (by_encoding is has none) = none x.document.bytes x.document.are
writes_no_refusal width text u e one x (by_document cause bytes is has are none) =
    no_document bytes x.written cause (subst (λ (b : List ℕ). ReadsUpdate b x.written)
    (same_bytes width text x.document.bytes bytes one has x.document.are are) x.document.document) none
writes_no_refusal width text u e one x (by_rule w writes is) =
    let same = ap verdict (same_written width text x.written w one x.document writes) in
    let lawful = x.lawful in
    cc

-- a refusal of a text that writes an update is want of memory
pub never_both : (width : ℕ) (text : List ℕ) (u : UpdateParts) (e : UpdateError) → WritesOne → Writes width text u → Refuses width text e → e ≡ OutOfMemory
never_both width text u OutOfMemory one x r = refl
never_both width text u e one x r = absurd (writes_no_refusal width text u e one x (refusal_of width text e (λ same. cc) r))

document_and_rule : (width : ℕ) (text bytes : List ℕ) (cause : Error) (w : WrittenUpdate) → WritesOne → HasLength width text → WritesBytes width text bytes
    → IsNoDocument bytes cause → WritesDocument width text w → ⊥
document_and_rule width text bytes cause w one has are none writes =
    no_document bytes w cause (subst (λ (b : List ℕ). ReadsUpdate b w) (same_bytes width text writes.bytes bytes one has writes.are are) writes.document) none

same_refusal : (width : ℕ) (text : List ℕ) (e f : UpdateError) → WritesOne → Refusal width text e → Refusal width text f → e ≡ f
same_refusal width text e f one (by_length is none) (by_length is' none') = is ∙ sym is'
same_refusal width text e f one (by_length is none) (by_encoding is' has' none') = absurd (none has')
same_refusal width text e f one (by_length is none) (by_document cause bytes is' has' are' none') = absurd (none has')
same_refusal width text e f one (by_length is none) (by_rule w writes is') = absurd (none writes.has)
same_refusal width text e f one (by_encoding is has none) (by_length is' none') = absurd (none' has)
same_refusal width text e f one (by_encoding is has none) (by_encoding is' has' none') = is ∙ sym is'
same_refusal width text e f one (by_encoding is has none) (by_document cause bytes is' has' are' none') = absurd (none bytes are')
same_refusal width text e f one (by_encoding is has none) (by_rule w writes is') = absurd (none writes.bytes writes.are)
same_refusal width text e f one (by_document cause bytes is has are none) (by_length is' none') = absurd (none' has)
same_refusal width text e f one (by_document cause bytes is has are none) (by_encoding is' has' none') = absurd (none' bytes are)
same_refusal width text e f one (by_document cause bytes is has are none) (by_document cause' bytes' is' has' are' none') =
    let same = same_bytes width text bytes bytes' one has are are' in
    is ∙ ap (λ (c : Error). Document c) (same_cause bytes' cause cause' (subst (λ (b : List ℕ). IsNoDocument b cause) same none) none') ∙ sym is'
same_refusal width text e f one (by_document cause bytes is has are none) (by_rule w writes is') =
    absurd (document_and_rule width text bytes cause w one has are none writes)
same_refusal width text e f one (by_rule w writes is) (by_length is' none') = absurd (none' writes.has)
same_refusal width text e f one (by_rule w writes is) (by_encoding is' has' none') = absurd (none' writes.bytes writes.are)
same_refusal width text e f one (by_rule w writes is) (by_document cause bytes is' has' are' none') =
    absurd (document_and_rule width text bytes cause w one has' are' none' writes)
same_refusal width text e f one (by_rule w writes is) (by_rule w' writes' is') =
    let same = ap verdict (same_written width text w w' one writes writes') in
    cc

pub one_refusal : (width : ℕ) (text : List ℕ) (e f : UpdateError) → WritesOne → Refuses width text e → Refuses width text f → e ≢ OutOfMemory
    → f ≢ OutOfMemory → e ≡ f
one_refusal width text e f one x y some some' = same_refusal width text e f one (refusal_of width text e some x) (refusal_of width text f some' y)

breaks_rule : (width : ℕ) (text : List ℕ) (w : WrittenUpdate) (e : UpdateError) → WritesDocument width text w → IsRule e → verdict w ≡ Err e
    → Refuses width text e
breaks_rule width text w RevisionsUsedUp writes rule is = absurd rule
breaks_rule width text w (Text cause) writes rule is = absurd rule
breaks_rule width text w (Document cause) writes rule is = absurd rule
breaks_rule width text w OutOfMemory writes rule is = tt
breaks_rule width text w MissingRequiredField writes rule is = (w, writes, is)
breaks_rule width text w WithdrawalWithEntries writes rule is = (w, writes, is)
breaks_rule width text w (Subject n cause) writes rule is = (w, writes, is)
breaks_rule width text w (AlgorithmMismatch n) writes rule is = (w, writes, is)
breaks_rule width text w (PublicKeyMismatch n) writes rule is = (w, writes, is)
breaks_rule width text w (Domain n cause) writes rule is = (w, writes, is)
breaks_rule width text w (Authorities n cause) writes rule is = (w, writes, is)
breaks_rule width text w (MissingBundle n) writes rule is = (w, writes, is)

pub rule_refused : (width : ℕ) (text : List ℕ) (w : WrittenUpdate) (e : UpdateError) → WritesDocument width text w → IsRefusal (verdict w) e
    → Refuses width text e
rule_refused width text w e writes (inl is) = breaks_rule width text w e writes (verdict_rules w e is) is
rule_refused width text w e writes (inr memory) = rw memory tt

-- the reason of a document is a text of few bytes
pub reason_text : (bytes : List ℕ) (reason : Option (List ℕ)) → ReadsReason reason bytes → IfSome reason IsReasonText
reason_text bytes None r = tt
reason_text bytes (Some text) r = r.has.1
