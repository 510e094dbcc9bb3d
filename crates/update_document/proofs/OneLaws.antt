-- Bytes are the document of one update.
use Rattle.std.proofs.Common.{◌≡◌, ℕ, List, [], ◌++◌, Option, Some, None, refl, sym, ap, subst, ◌∙◌}
use Rattle.der_core.specs.Decode.{ReadsTagged, ReadsTagged-one_value}
use Rattle.der_core.specs.Der.{IsTag}
use Rattle.der_core.specs.Sequence.{Then}
use Rattle.der_core.specs.Tags.{tag_4, tag_12, tag_48}
use Rattle.der_core.specs.SequenceLaws.{ReadsOne, then_same}
use Rattle.spki.specs.PlainPublicKey.{PlainPublicKey, ReadsPublicKey}
use Rattle.spki.specs.ReadLaws.{reads_one_public_key}
use Rattle.pkcs8.specs.PlainPrivateKey.{PlainPrivateKey, ReadsOctets, ReadsPrivateKey}
use Rattle.pkcs8.specs.ReadLaws.{reads_one_private_key, same_contents}
use Rattle.update_document.specs.Document.{DocumentContent, HasReason, ReadsReason}
use Rattle.update_document.specs.Elements.{ReadsList}
use Rattle.update_document.specs.ElementsLaws.{list_one, not_empty}
use Rattle.der_core.specs.Sequence.{Last, ThreeFields, TwoFields}
use Rattle.update_document.specs.Written.{ReadsBundle, ReadsEntry, ReadsText, ReadsUpdate, WrittenBundle, WrittenEntry, WrittenUpdate}
use Rattle.update_document.proofs.DocumentLaws.{tag_128}

tagged_one : {V : Type 0} (tag : ℕ) (H : List ℕ → V → Type 0) → IsTag tag → ((c : List ℕ) (v w : V) → H c v → H c w → v ≡ w) → ReadsOne (ReadsTagged tag H)
tagged_one tag H t one = record {
  value = λ b v r. ReadsTagged-one_value tag H b v t r;
  one = λ b v w r s. one s.content v w (subst (λ x. H x v) (same_contents tag H t b v w r s) r.has) s.has;
}

text_one : ReadsOne ReadsText
text_one = tagged_one 12 _ tag_12 (λ c v w h k. h.0 ∙ sym k.0)

octets_one : ReadsOne ReadsOctets
octets_one = tagged_one 4 _ tag_4 (λ c v w h k. h ∙ sym k)

-- two readings of the same first field, and what follows it
record BothThen {V : Type 0} (Reads : List ℕ → V → Type 0) (Next Next' : List ℕ → Type 0) (v w : V) : Type 0 where
  rest : List ℕ
  same : v ≡ w
  next : Next rest
  next' : Next' rest

both_then : {V : Type 0} (Reads : List ℕ → V → Type 0) (Next Next' : List ℕ → Type 0) (s : List ℕ) (v w : V) → ReadsOne Reads → Then Reads Next s v
    → Then Reads Next' s w → BothThen Reads Next Next' v w
both_then Reads Next Next' s v w law t u =
    let same = then_same Reads Next' s t.rest v w law.value (record { front = t.front; reads = t.reads; is = t.is }) u in
    record { rest = t.rest; same = law.one t.front v w t.reads same.reads; next = t.next; next' = same.next }

entry_content_one : (c : List ℕ) (v w : WrittenEntry) → ThreeFields ReadsText ReadsPrivateKey ReadsPublicKey c v.text v.private_key v.public_key
    → ThreeFields ReadsText ReadsPrivateKey ReadsPublicKey c w.text w.private_key w.public_key → v ≡ w
entry_content_one c v w r s =
    let text = both_then ReadsText (λ after. Then ReadsPrivateKey (Last ReadsPublicKey v.public_key) after v.private_key)
    (λ after. Then ReadsPrivateKey (Last ReadsPublicKey w.public_key) after w.private_key) c v.text w.text text_one r s in
    let private = both_then ReadsPrivateKey (Last ReadsPublicKey v.public_key) (Last ReadsPublicKey w.public_key) text.rest v.private_key w.private_key
    reads_one_private_key text.next text.next' in
    let public = reads_one_public_key.one private.rest v.public_key w.public_key private.next private.next' in
    let with_text : List ℕ → WrittenEntry = λ x. record { text = x; private_key = v.private_key; public_key = v.public_key } in
    let with_private : PlainPrivateKey → WrittenEntry = λ x. record { text = w.text; private_key = x; public_key = v.public_key } in
    let with_public : PlainPublicKey → WrittenEntry = λ x. record { text = w.text; private_key = w.private_key; public_key = x } in
    ap with_text text.same ∙ ap with_private private.same ∙ ap with_public public

bundle_content_one : (c : List ℕ) (v w : WrittenBundle) → TwoFields ReadsText ReadsOctets c v.text v.jwks → TwoFields ReadsText ReadsOctets c w.text w.jwks
    → v ≡ w
bundle_content_one c v w r s =
    let text = both_then ReadsText (Last ReadsOctets v.jwks) (Last ReadsOctets w.jwks) c v.text w.text text_one r s in
    let jwks = octets_one.one text.rest v.jwks w.jwks text.next text.next' in
    let with_text : List ℕ → WrittenBundle = λ x. record { text = x; jwks = v.jwks } in
    let with_jwks : List ℕ → WrittenBundle = λ x. record { text = w.text; jwks = x } in
    ap with_text text.same ∙ ap with_jwks jwks

entry_one : ReadsOne ReadsEntry
entry_one = tagged_one 48 _ tag_48 entry_content_one

bundle_one : ReadsOne ReadsBundle
bundle_one = tagged_one 48 _ tag_48 bundle_content_one

text_of_reason : ReadsOne (ReadsTagged 128 HasReason)
text_of_reason = tagged_one 128 HasReason tag_128 (λ c v w h k. sym h.0 ∙ k.0)

no_bytes : (s text : List ℕ) → s ≡ [] → ReadsTagged 128 HasReason s text → ⊥
no_bytes s text e r = not_empty s [] (text_of_reason.value s text r) (ap (λ (x : List ℕ). x ++ []) e)

reason_one : (s : List ℕ) (v w : Option (List ℕ)) → ReadsReason v s → ReadsReason w s → v ≡ w
reason_one s None None r t = refl
reason_one s None (Some w) r t = absurd (no_bytes s w r t)
reason_one s (Some v) None r t = absurd (no_bytes s v t r)
reason_one s (Some v) (Some w) r t = let some : List ℕ → Option (List ℕ) = λ x. Some x in ap some (text_of_reason.one s v w r t)

content_one : (c : List ℕ) (v w : WrittenUpdate) → DocumentContent ReadsEntry ReadsBundle c v.entries v.bundles v.reason
    → DocumentContent ReadsEntry ReadsBundle c w.entries w.bundles w.reason → v ≡ w
content_one c v w r s =
    let entries = both_then (ReadsList ReadsEntry) (λ after. Then (ReadsList ReadsBundle) (ReadsReason v.reason) after v.bundles)
    (λ after. Then (ReadsList ReadsBundle) (ReadsReason w.reason) after w.bundles) c v.entries w.entries (list_one ReadsEntry entry_one) r s in
    let bundles = both_then (ReadsList ReadsBundle) (ReadsReason v.reason) (ReadsReason w.reason) entries.rest v.bundles w.bundles
    (list_one ReadsBundle bundle_one) entries.next entries.next' in
    let reason = reason_one bundles.rest v.reason w.reason bundles.next bundles.next' in
    let with_entries : List WrittenEntry → WrittenUpdate = λ x. record { entries = x; bundles = v.bundles; reason = v.reason } in
    let with_bundles : List WrittenBundle → WrittenUpdate = λ x. record { entries = w.entries; bundles = x; reason = v.reason } in
    let with_reason : Option (List ℕ) → WrittenUpdate = λ x. record { entries = w.entries; bundles = w.bundles; reason = x } in
    ap with_entries entries.same ∙ ap with_bundles bundles.same ∙ ap with_reason reason

pub update_one : ReadsOne ReadsUpdate
update_one = tagged_one 48 _ tag_48 content_one
