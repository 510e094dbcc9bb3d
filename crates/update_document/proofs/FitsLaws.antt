-- What is written of a document is no longer than what was read.
use Rattle.std.proofs.Common.{◌≡◌, ℕ, ◌+◌, ◌<◌, ◌≤◌, List, [], ◌∷◌, ◌++◌, length, Option, Some, None, sym, ap, ◌∙◌, inl, inr, length-append, arith}
use Rattle.std.proofs.lemmas.Bool.{cases_lt}
use Rattle.std.specs.List.{flat_map}
use Rattle.der_core.specs.Der.{encode, length_bytes}
use Rattle.der_core.specs.LengthLaws.{length_bytes_1, length_bytes_2, length_bytes_3, length_bytes_4, length_bytes_5}
use Rattle.der_core.specs.Laws.{length_encode}
use Rattle.der_core.specs.ValueLaws.{header_length}
use Rattle.der_small.specs.Bits.{BitsContent, PlainBits}
use Rattle.spki.specs.PlainAlgorithm.{algorithm_der}
use Rattle.spki.specs.PlainPublicKey.{public_key_der}
use Rattle.pkcs8.specs.PlainPrivateKey.{PlainPrivateKey, ReadsPrivateKey, bits_content, plain_reads, plain_texts, private_key_der}
use Rattle.pkcs8.specs.PrivateKey.{AfterAttributes, AfterKey, attributes_tag, fields_written, optional_field, public_key_tag}
use Rattle.pkcs8.specs.Version.{version_byte, version_of}
use Rattle.update_document.specs.Document.{ReadsReason}
use Rattle.update_document.specs.Elements.{Elements}
use Rattle.update_document.specs.Spelling.{bundle_content, bundle_der, document_content, document_der, entry_content, entry_der, reason_der}
use Rattle.update_document.specs.Written.{ReadsBundle, ReadsEntry, ReadsText, ReadsUpdate, WrittenBundle, WrittenEntry, WrittenUpdate}

at_most_1 : (n : ℕ) → n < 128 → length (length_bytes n) ≤ 1
at_most_1 n h = let e = ap length (length_bytes_1 n h) in omega arith

at_most_2 : (n : ℕ) → n < 256 → length (length_bytes n) ≤ 2
at_most_2 n h =
    elim (cases_lt n 128) [
      | inl s ↦ let l = at_most_1 n s in omega arith
      | inr g ↦ let e = ap length (length_bytes_2 n g h) in omega arith
    ]

at_most_3 : (n : ℕ) → n < 65536 → length (length_bytes n) ≤ 3
at_most_3 n h =
    elim (cases_lt n 256) [
      | inl s ↦ let l = at_most_2 n s in omega arith
      | inr g ↦ let e = ap length (length_bytes_3 n g h) in omega arith
    ]

at_most_4 : (n : ℕ) → n < 16777216 → length (length_bytes n) ≤ 4
at_most_4 n h =
    elim (cases_lt n 65536) [
      | inl s ↦ let l = at_most_3 n s in omega arith
      | inr g ↦ let e = ap length (length_bytes_4 n g h) in omega arith
    ]

header_le : (m n : ℕ) → m ≤ n → length (length_bytes m) ≤ length (length_bytes n)
header_le m n h =
    elim (cases_lt n 128) [
      | inl s ↦ let a = at_most_1 m (omega arith) in let e = ap length (length_bytes_1 n s) in omega arith
      | inr g ↦ elim (cases_lt n 256) [
        | inl s ↦ let a = at_most_2 m (omega arith) in let e = ap length (length_bytes_2 n g s) in omega arith
        | inr g ↦ elim (cases_lt n 65536) [
          | inl s ↦ let a = at_most_3 m (omega arith) in let e = ap length (length_bytes_3 n g s) in omega arith
          | inr g ↦ elim (cases_lt n 16777216) [
            | inl s ↦ let a = at_most_4 m (omega arith) in let e = ap length (length_bytes_4 n g s) in omega arith
            | inr g ↦ let a = (header_length m).0 in let e = ap length (length_bytes_5 n g) in omega arith
          ]
        ]
      ]
    ]

-- a content that is no longer has a value that is no longer
pub encode_le : (tag : ℕ) (a b : List ℕ) → length a ≤ length b → length (encode tag a) ≤ length (encode tag b)
encode_le tag a b h =
    let header = header_le (length a) (length b) h in
    let first = length_encode tag a in
    let second = length_encode tag b in
    omega arith

public_le : (s : List ℕ) (k : Option PlainBits) → AfterAttributes BitsContent k s → length (optional_field public_key_tag bits_content k) ≤ length s
public_le s None a = omega arith
public_le s (Some k) a =
    let field = ap length (a.reads.is ∙ ap (λ (x : List ℕ). encode public_key_tag x) a.reads.has.is) in
    let all = ap length a.is ∙ length-append a.front a.rest in
    omega arith

tail_le : (s : List ℕ) (t : Option (List ℕ)) (k : Option PlainBits) → AfterKey plain_reads.attributes BitsContent t k s
    → length (optional_field attributes_tag (λ content. content) t) + length (optional_field public_key_tag bits_content k) ≤ length s
tail_le s None k a = let public = public_le s k a.1 in omega arith
tail_le s (Some t) k a =
    let field = ap length (a.reads.is ∙ ap (λ (x : List ℕ). encode attributes_tag x) (sym a.reads.has)) in
    let all = ap length a.is ∙ length-append a.front a.rest in
    let public = public_le a.rest k a.next in
    omega arith

-- extensions are not written
private_le : (b : List ℕ) (k : PlainPrivateKey) → ReadsPrivateKey b k → length (private_key_der k) ≤ length b
private_le b k r =
    let version : List ℕ = encode 2 (version_byte (version_of k.public_key) ∷ []) in
    let algorithm : List ℕ = algorithm_der k.algorithm in
    let key : List ℕ = encode 4 k.private_key in
    let attributes : List ℕ = optional_field attributes_tag (λ content. content) k.attributes in
    let public : List ℕ = optional_field public_key_tag bits_content k.public_key in
    let a = r.has.next in
    let o = a.next in
    let version_is = ap length (r.has.reads.is ∙ ap (λ (x : List ℕ). encode 2 x) r.has.reads.has) in
    let algorithm_is = ap length a.reads.is in
    let key_is = ap length (o.reads.is ∙ ap (λ (x : List ℕ). encode 4 x) (sym o.reads.has)) in
    let tail = tail_le o.rest k.attributes k.public_key o.next in
    let one = ap length r.has.is ∙ length-append r.has.front r.has.rest in
    let two = ap length a.is ∙ length-append a.front a.rest in
    let three = ap length o.is ∙ length-append o.front o.rest in
    let sum_1 = length-append version algorithm in
    let sum_2 = length-append (version ++ algorithm) key in
    let sum_3 = length-append ((version ++ algorithm) ++ key) (attributes ++ public) in
    let sum_4 = length-append attributes public in
    let content : length (fields_written plain_texts k) ≤ length r.content = omega arith in
    let whole = encode_le 48 (fields_written plain_texts k) r.content content in
    let is = ap length r.is in
    omega arith

text_is : (b text : List ℕ) → ReadsText b text → length b ≡ length (encode 12 text)
text_is b text r = ap length (r.is ∙ ap (λ (x : List ℕ). encode 12 x) (sym r.has.0))

entry_le : (b : List ℕ) (e : WrittenEntry) → ReadsEntry b e → length (entry_der e) ≤ length b
entry_le b e r =
    let text = text_is r.has.front e.text r.has.reads in
    let private = private_le r.has.next.front e.private_key r.has.next.reads in
    let public = ap length r.has.next.next.is in
    let one = ap length r.has.is ∙ length-append r.has.front r.has.rest in
    let two = ap length r.has.next.is ∙ length-append r.has.next.front r.has.next.rest in
    let keys = length-append (private_key_der e.private_key) (public_key_der e.public_key) in
    let sum = length-append (encode 12 e.text) (private_key_der e.private_key ++ public_key_der e.public_key) in
    let content : length (entry_content e) ≤ length r.content = omega arith in
    let whole = encode_le 48 (entry_content e) r.content content in
    let is = ap length r.is in
    omega arith

bundle_le : (b : List ℕ) (v : WrittenBundle) → ReadsBundle b v → length (bundle_der v) ≤ length b
bundle_le b v r =
    let text = text_is r.has.front v.text r.has.reads in
    let jwks = ap length (r.has.next.is ∙ ap (λ (x : List ℕ). encode 4 x) (sym r.has.next.has)) in
    let one = ap length r.has.is ∙ length-append r.has.front r.has.rest in
    let sum = length-append (encode 12 v.text) (encode 4 v.jwks) in
    let content : length (bundle_content v) ≤ length r.content = omega arith in
    let whole = encode_le 48 (bundle_content v) r.content content in
    let is = ap length r.is in
    omega arith

elements_le : {V : Type 0} (Reads : List ℕ → V → Type 0) (der : V → List ℕ) → ((b : List ℕ) (v : V) → Reads b v → length (der v) ≤ length b)
    → (vs : List V) (b : List ℕ) → Elements Reads vs b → length (flat_map der vs) ≤ length b
elements_le Reads der law [] b e = omega arith
elements_le Reads der law (v ∷ vs) b e =
    let first = law e.front v e.reads in
    let more = elements_le Reads der law vs e.rest e.next in
    let sum = length-append (der v) (flat_map der vs) in
    let all = ap length e.is ∙ length-append e.front e.rest in
    omega arith

reason_is : (b : List ℕ) (reason : Option (List ℕ)) → ReadsReason reason b → length (reason_der reason) ≡ length b
reason_is b None r = sym (ap length r)
reason_is b (Some text) r = sym (ap length (r.is ∙ ap (λ (x : List ℕ). encode 128 x) r.has.0))

pub document_le : (b : List ℕ) (u : WrittenUpdate) → ReadsUpdate b u → length (document_der u) ≤ length b
document_le b u r =
    let entries : List ℕ = flat_map entry_der u.entries in
    let bundles : List ℕ = flat_map bundle_der u.bundles in
    let es = encode_le 48 entries r.has.reads.content (elements_le ReadsEntry entry_der entry_le u.entries r.has.reads.content r.has.reads.has) in
    let bs = encode_le 48 bundles r.has.next.reads.content (elements_le ReadsBundle bundle_der bundle_le u.bundles r.has.next.reads.content
    r.has.next.reads.has) in
    let es_is = ap length r.has.reads.is in
    let bs_is = ap length r.has.next.reads.is in
    let reason = reason_is r.has.next.rest u.reason r.has.next.next in
    let one = ap length r.has.is ∙ length-append r.has.front r.has.rest in
    let two = ap length r.has.next.is ∙ length-append r.has.next.front r.has.next.rest in
    let behind = length-append (encode 48 bundles) (reason_der u.reason) in
    let sum = length-append (encode 48 entries) (encode 48 bundles ++ reason_der u.reason) in
    let content : length (document_content u) ≤ length r.content = omega arith in
    let whole = encode_le 48 (document_content u) r.content content in
    let is = ap length r.is in
    omega arith
