-- What a reader of a document knows.
use Rattle.std.proofs.Common.{◌≡◌, ◌⊎◌, ℕ, ◌+◌, ◌-◌, ◌<◌, ◌^◌, ◌==◌, List, [], ◌++◌, length, Bool, false, Option, Some, None, Result, Ok, Err, IsErrAnd, inl}
use Rattle.std.proofs.Common.{inr, refl, sym, ap, ◌∙◌, append-nil, length-append, arith}
use Rattle.std.proofs.lemmas.Bool.{eqb-false}
use Rattle.der_core.specs.declared.error.Error.{Error}
use Rattle.der_core.specs.declared.error.Error.TheVariants as error
use Rattle.std.proofs.Common.{lit<}
use Rattle.der_core.specs.Decode.{FromDerOwned, NoFront, Trails}
use Rattle.der_core.specs.Der.{IsTag, encode}
use Rattle.der_core.specs.Sequence.{Then}
use Rattle.der_core.specs.Tags.{tag_48}
use Rattle.der_core.specs.ValueLaws.{same_value}
use Rattle.update_document.specs.Elements.{Elements, ReadsList}
use Rattle.update_document.specs.Document.{DocumentContent, DocumentOf, IsReasonText, ReadsDocument, ReadsReason}

pub tag_128 : IsTag 128
tag_128 = record { present = lit< tt; byte = lit< tt; single = lit< tt }

-- the only reason of bytes that are not empty
pub record ReasonAt (s text : List ℕ) : Type 0 where
  pub is : s ≡ encode 128 text
  pub fits : length (encode 128 text) < 2 ^ 32
  pub reason : IsReasonText text

reason_at : (s : List ℕ) (reason : Option (List ℕ)) → (s ≡ [] → ⊥) → ReadsReason reason s → (text : List ℕ) × ReasonAt s text
reason_at s None some r = absurd (some r)
reason_at s (Some text) some r = (text, record { is = rw (← r.has.0) r.is; fits = rw (← r.has.0, ← r.is) r.fits; reason = r.has.1 })

pub no_field_no_reason : (s : List ℕ) → (s ≡ [] → ⊥) → ((content rest : List ℕ) → length (encode 128 content) < 2 ^ 32 → s ≡ encode 128 content ++ rest → ⊥)
    → (reason : Option (List ℕ)) → ReadsReason reason s → ⊥
no_field_no_reason s some none reason r =
    let at = reason_at s reason some r in
    none at.0 [] at.1.fits (at.1.is ∙ sym (append-nil (encode 128 at.0)))

pub record SameReason (content rest : List ℕ) : Type 0 where
  pub rest_is : rest ≡ []
  pub reason : IsReasonText content

pub same_reason : (s content rest : List ℕ) → (s ≡ [] → ⊥) → s ≡ encode 128 content ++ rest → length (encode 128 content) < 2 ^ 32
    → (reason : Option (List ℕ)) → ReadsReason reason s → SameReason content rest
same_reason s content rest some is fits reason r =
    let at = reason_at s reason some r in
    let whole : encode 128 content ++ rest ≡ encode 128 at.0 ++ [] = sym is ∙ at.1.is ∙ sym (append-nil (encode 128 at.0)) in
    let same = same_value 128 content rest 128 at.0 [] tag_128 fits tag_128 at.1.fits whole in
    record { rest_is = same.rests; reason = rw same.contents at.1.reason }

pub some_bytes : (s : List ℕ) (r : Bool) → r ≡ (length s == 0) → r ≡ false → s ≡ [] → ⊥
some_bytes s r is fails e = eqb-false (length s) 0 (sym is ∙ fails) (ap length e)

pub record ListAt {V : Type 0} (Reads : List ℕ → V → Type 0) (Next : List ℕ → Type 0) (content rest : List ℕ) (vs : List V) : Type 0 where
  pub are : Elements Reads vs content
  pub next : Next rest

-- the list at the front is that of the sequence which was found there
pub list_at : {V : Type 0} (Reads : List ℕ → V → Type 0) (Next : List ℕ → Type 0) (s content rest : List ℕ) → s ≡ encode 48 content ++ rest
    → length (encode 48 content) < 2 ^ 32 → (vs : List V) → Then (ReadsList Reads) Next s vs → ListAt Reads Next content rest vs
list_at Reads Next s content rest is fits vs t =
    let fits' : length (encode 48 t.reads.content) < 2 ^ 32 = rw (← t.reads.is) t.reads.fits in
    let whole : encode 48 content ++ rest ≡ encode 48 t.reads.content ++ t.rest = sym is ∙ t.is ∙ ap (λ (x : List ℕ). x ++ t.rest) t.reads.is in
    let same = same_value 48 content rest 48 t.reads.content t.rest tag_48 fits tag_48 fits' whole in
    record { are = rw same.contents t.reads.has; next = rw same.rests t.next }

pub no_list : {V : Type 0} (Reads : List ℕ → V → Type 0) (Next : List ℕ → Type 0) (s : List ℕ) (vs : List V)
    → ((content rest : List ℕ) → length (encode 48 content) < 2 ^ 32 → s ≡ encode 48 content ++ rest → ⊥) → Then (ReadsList Reads) Next s vs → ⊥
no_list Reads Next s vs none t =
    let fits : length (encode 48 t.reads.content) < 2 ^ 32 = rw (← t.reads.is) t.reads.fits in
    none t.reads.content t.rest fits (t.is ∙ ap (λ (x : List ℕ). x ++ t.rest) t.reads.is)

-- a sequence that is no document
pub no_document : {E B : Type 0} (ReadsE : List ℕ → E → Type 0) (ReadsB : List ℕ → B → Type 0) (bytes content rest : List ℕ)
    → bytes ≡ encode 48 content ++ rest → length (encode 48 content) < 2 ^ 32
    → ((d : DocumentOf E B) → DocumentContent ReadsE ReadsB content d.entries d.bundles d.reason → ⊥) → NoFront (ReadsDocument ReadsE ReadsB) bytes
no_document ReadsE ReadsB bytes content rest is fits none = λ b after d r e.
    let fits' : length (encode 48 r.content) < 2 ^ 32 = rw (← r.is) r.fits in
    let whole : encode 48 content ++ rest ≡ encode 48 r.content ++ after = sym is ∙ e ∙ ap (λ (x : List ℕ). x ++ after) r.is in
    let same = same_value 48 content rest 48 r.content after tag_48 fits tag_48 fits' whole in
    none d (rw same.contents r.has)

-- reading a document is refused as reading its content is
pub content_refused : {E B W : Type 0} (ReadsE : List ℕ → E → Type 0) (ReadsB : List ℕ → B → Type 0) (plain : W → DocumentOf E B)
    (bytes content rest : List ℕ) (e : Error) (r : Result W Error) → bytes ≡ encode 48 content ++ rest → length (encode 48 content) < 2 ^ 32
    → (e ≡ error.Malformed → (d : DocumentOf E B) → DocumentContent ReadsE ReadsB content d.entries d.bundles d.reason → ⊥) → (e ≡ error.Malformed)
    ⊎ (e ≡ error.OutOfMemory) → IsErrAnd r (λ y. y ≡ e) → FromDerOwned plain (ReadsDocument ReadsE ReadsB) bytes r
content_refused ReadsE ReadsB plain bytes content rest e (Ok w) is fits none cause err = absurd err
content_refused ReadsE ReadsB plain bytes content rest e (Err y) is fits none (inl m) err =
    rw (err, m) (no_document ReadsE ReadsB bytes content rest is fits (none m))
content_refused ReadsE ReadsB plain bytes content rest e (Err y) is fits none (inr m) err = rw (err, m) tt

-- a document before other bytes
pub trails : {E B : Type 0} (ReadsE : List ℕ → E → Type 0) (ReadsB : List ℕ → B → Type 0) (bytes content rest : List ℕ) (d : DocumentOf E B)
    → bytes ≡ encode 48 content ++ rest → length (encode 48 content) < 2 ^ 32
    → DocumentContent ReadsE ReadsB content d.entries d.bundles d.reason → (rest ≡ [] → ⊥)
    → Trails (ReadsDocument ReadsE ReadsB) bytes (length bytes - length rest) (length rest)
trails ReadsE ReadsB bytes content rest d is fits has some =
    let all : length bytes ≡ length (encode 48 content) + length rest = ap length is ∙ length-append (encode 48 content) rest in
    record {
      front = encode 48 content;
      rest = rest;
      value = d;
      reads = record { content = content; has = has; is = refl; fits = fits };
      is = is;
      some_rest = some;
      decoded_is = omega arith;
      remaining_is = refl;
    }

abbrev error_or : {T E : Type 0} → E → Result T E → E
error_or d (Ok x) = d
error_or d (Err e) = e

pub same_error : {T E : Type 0} (e d : E) (r s : Result T E) → r ≡ Err e → s ≡ Err d → r ≡ s → e ≡ d
same_error e d r s is js same = ap (error_or d) (sym is ∙ same ∙ js)
