-- The document around entries that were written.
use Rattle.std.proofs.Common.{◌≡◌, ℕ, ◌+◌, ◌≤◌, List, [], ◌++◌, length, map, option_map, Option, Some, None, IfSome, refl, sym, ap, subst, ◌∙◌, append-nil}
use Rattle.std.proofs.Common.{length-append, arith}
use Rattle.std.proofs.lemmas.List.Folds.{flat_map-map}
use Rattle.std.specs.List.{flat_map}
use Rattle.der_core.specs.Any.{PlainAny, der_of, plain_ref}
use Rattle.der_core.specs.Der.{encode}
use Rattle.der_core.specs.Laws.{length_encode}
use Rattle.der_core.specs.declared.any.AnyRef.{AnyRef}
use Rattle.der_small.specs.Utf8.{text_ref}
use Rattle.der_small.specs.declared.utf8.Utf8Ref.{Utf8Ref}
use Rattle.update_document.specs.Spelling.{bundle_der, document_der, entry_der, fields_behind, fields_written, reason_der}
use Rattle.update_document.specs.Written.{WrittenUpdate}
use Rattle.identity_update.specs.Assembled.{assembled, document_of}
use Rattle.identity_update.specs.Bundle.{plain_bundle}
use Rattle.identity_update.specs.Canonical.{canonical_bundle, canonical_entry, update_der}
use Rattle.identity_update.specs.Checked.{checked_entry}
use Rattle.identity_update.specs.KeptEntries.{entries_der}
use Rattle.identity_update.specs.Place.{FoundAt}
use Rattle.identity_update.specs.Places.{Ends}
use Rattle.identity_update.specs.declared.bundle.BundleParts.{BundleParts}
use Rattle.identity_update.specs.declared.entry.CheckedEntry.{CheckedEntry}
use Rattle.identity_update.specs.declared.place.Place.{Place}
use Rattle.identity_update.proofs.Ends.{ends_first, ends_second, ends_self, ends_value, found_at}

abbrev pub bundles_der : List BundleParts → List ℕ
bundles_der bundles = flat_map bundle_der (map canonical_bundle (map plain_bundle bundles))

abbrev pub behind : List BundleParts → Option Utf8Ref → List ℕ
behind bundles reason = fields_behind (bundles_der bundles) (option_map text_ref reason)

abbrev bundles_read : List BundleParts → List ℕ
bundles_read bundles = flat_map (λ b. bundle_der (canonical_bundle (plain_bundle b))) bundles

bundles_are : (bundles : List BundleParts) → bundles_der bundles ≡ bundles_read bundles
bundles_are bundles = flat_map-map bundle_der canonical_bundle (map plain_bundle bundles)
    ∙ flat_map-map (λ b. bundle_der (canonical_bundle b)) plain_bundle bundles

-- the one document of parts is what is written of them
pub assembled_der : (entries : List CheckedEntry) (bundles : List BundleParts) (reason : Option Utf8Ref)
    → update_der (assembled entries bundles reason) ≡ encode 48
    (encode 48 (flat_map (λ e. entry_der (canonical_entry (checked_entry e))) entries)
    ++ fields_behind (flat_map (λ b. bundle_der (canonical_bundle (plain_bundle b))) bundles) (option_map text_ref reason))
assembled_der entries bundles reason =
    let es : entries_der (map checked_entry entries) ≡ flat_map (λ e. entry_der (canonical_entry (checked_entry e))) entries =
    flat_map-map entry_der canonical_entry (map checked_entry entries) ∙ flat_map-map (λ e. entry_der (canonical_entry e)) checked_entry entries in
    ap (λ (x : List ℕ). encode 48 (fields_written x (bundles_der bundles) (option_map text_ref reason))) es
    ∙ ap (λ (x : List ℕ). encode 48 (fields_written (flat_map (λ e. entry_der (canonical_entry (checked_entry e))) entries) x (option_map text_ref reason)))
    (bundles_are bundles)

-- the fields of a document around a list that was written before
pub around : (list : AnyRef) (written : List ℕ) (bundles : List BundleParts) (reason : Option Utf8Ref)
    → plain_ref list ≡ record { tag = 48; content = written }
    → encode list.tag.byte list.value.now ++ fields_behind (flat_map (λ b. bundle_der (canonical_bundle (plain_bundle b))) bundles)
    (option_map text_ref reason) ≡ encode 48 written ++ behind bundles reason
around list written bundles reason is =
    ap (λ (v : PlainAny). der_of v ++ fields_behind (bundles_read bundles) (option_map text_ref reason)) is
    ∙ ap (λ (x : List ℕ). encode 48 written ++ fields_behind x (option_map text_ref reason)) (sym (bundles_are bundles))

pub list_is : (list : AnyRef) (written : List ℕ) → plain_ref list ≡ record { tag = 48; content = written }
    → encode list.tag.byte list.value.now ≡ encode 48 written
list_is list written is = ap der_of is

pub record Sizes (document entries content : List ℕ) : Type 0 where
  pub listed : length entries ≤ length (encode 48 entries)
  pub list : length (encode 48 entries) ≤ length content
  pub whole : length content ≤ length document

pub sizes : (document entries behind : List ℕ) → document ≡ encode 48 (encode 48 entries ++ behind) → Sizes document entries (encode 48 entries ++ behind)
sizes document entries behind is =
    let inner = length-append (encode 48 entries) behind in
    let list = length_encode 48 entries in
    let all = ap length is ∙ length_encode 48 (encode 48 entries ++ behind) in
    record { listed = omega arith; list = omega arith; whole = omega arith }

-- what is written of the entries is no longer than the document
pub entries_shorter : (w : WrittenUpdate) → length (flat_map entry_der w.entries) ≤ length (document_der w)
entries_shorter w =
    let s = sizes (document_der w) (flat_map entry_der w.entries) (fields_behind (flat_map bundle_der w.bundles) w.reason) refl in
    omega (arith, s)

-- where the entries of a document stand
pub entries_found : (document entries behind : List ℕ) (p : Place) → document ≡ encode 48 (encode 48 entries ++ behind)
    → p.end + length behind ≡ length document → p.start + length entries ≡ p.end → FoundAt document p entries
entries_found document entries behind p is after before =
    let listed = ends_first entries (encode 48 entries) behind (ends_value 48 entries entries (ends_self entries)) in
    let ends : Ends (entries ++ behind) document = subst (Ends (entries ++ behind)) (sym is)
    (ends_value 48 (entries ++ behind) (encode 48 entries ++ behind) listed) in
    found_at document [] document [] entries behind (length document) p (sym (append-nil document)) (omega arith) ends after before

reason_field_ends : (reason : Option Utf8Ref) → IfSome (option_map text_ref reason) (λ text. Ends text (reason_der (option_map text_ref reason)))
reason_field_ends None = tt
reason_field_ends (Some text) = ends_value 128 (text_ref text) (text_ref text) (ends_self (text_ref text))

ends_in : (document : List ℕ) (reason : Option Utf8Ref) → ((tail : List ℕ) → Ends tail (reason_der (option_map text_ref reason)) → Ends tail document)
    → IfSome (option_map text_ref reason) (λ text. Ends text document)
ends_in document None in_document = tt
ends_in document (Some text) in_document = in_document (text_ref text) (reason_field_ends (Some text))

-- the reason ends the document
pub reason_ends : (document written : List ℕ) (bundles : List BundleParts) (reason : Option Utf8Ref) → document ≡ document_of written bundles reason
    → IfSome (option_map text_ref reason) (λ text. Ends text document)
reason_ends document written bundles reason is =
    let first : List ℕ = encode 48 written in
    let second : List ℕ = encode 48 (bundles_der bundles) in
    let field : List ℕ = reason_der (option_map text_ref reason) in
    ends_in document reason
    (λ tail e. subst (Ends tail) (sym is) (ends_value 48 tail (first ++ (second ++ field))
    (ends_second first tail (second ++ field) (ends_second second tail field e))))
