-- Where the parts of an entry stand in its encoding.
use Rattle.std.proofs.Common.{◌≡◌, ℕ, ◌+◌, ◌<◌, ◌≤◌, ◌^◌, List, [], ◌∷◌, ◌++◌, length, Option, Some, sym, ap, subst, ◌∙◌, append_assoc, append-nil}
use Rattle.std.proofs.Common.{length-append, arith}
use Rattle.der_core.specs.Any.{PlainAny, der_of}
use Rattle.der_core.specs.Der.{encode}
use Rattle.spiffe_id.specs.SpiffeId.{id_text}
use Rattle.spki.specs.Algorithm.{optional_bytes}
use Rattle.spki.specs.PlainAlgorithm.{algorithm_der}
use Rattle.spki.specs.PlainPublicKey.{public_key_der}
use Rattle.pkcs8.specs.PlainPrivateKey.{plain_texts, private_key_der}
use Rattle.pkcs8.specs.PrivateKey.{attributes_tag, fields_written}
use Rattle.pkcs8.specs.Version.{version_byte, version_of}
use Rattle.identity_update.specs.Parts.{Entry}
use Rattle.identity_update.specs.Place.{FoundAt}
use Rattle.update_document.specs.Spelling as spelling
use Rattle.identity_update.specs.Canonical.{canonical_entry}
use Rattle.identity_update.specs.Places.{Ends, StandsAt, attributes_field, behind_attributes, behind_octets, held_field}
use Rattle.identity_update.specs.declared.place.Place.{Place}
use Rattle.identity_update.proofs.Ends.{ends_self, ends_cons, ends_value, ends_first, ends_second, found_at}

abbrev pub entry_content : Entry → List ℕ
entry_content e = spelling.entry_content (canonical_entry e)

abbrev pub entry_der : Entry → List ℕ
entry_der e = spelling.entry_der (canonical_entry e)

ends_same : (a b whole : List ℕ) → a ≡ b → Ends a whole → Ends b whole
ends_same a b whole e x = subst (λ (t : List ℕ). Ends t whole) e x

abbrev pub bits_field : Entry → List ℕ
bits_field e = encode 3 (e.public_key.key.unused_bits ∷ e.public_key.key.octets)

-- what ends the public key ends the entry
in_entry : (tail : List ℕ) (e : Entry) → Ends tail (private_key_der e.private_key ++ public_key_der e.public_key) → Ends tail (entry_der e)
in_entry tail e x = ends_value 48 tail (entry_content e) (ends_second (encode 12 (id_text e.id)) tail
    (private_key_der e.private_key ++ public_key_der e.public_key) x)

in_public : (tail : List ℕ) (e : Entry) → Ends tail (algorithm_der e.public_key.algorithm ++ bits_field e) → Ends tail (entry_der e)
in_public tail e x =
    in_entry tail e (ends_second (private_key_der e.private_key) tail (public_key_der e.public_key)
    (ends_value 48 tail (algorithm_der e.public_key.algorithm ++ bits_field e) x))

pub bits_end : (e : Entry) → Ends (e.public_key.key.octets ++ []) (entry_der e)
bits_end e =
    let octets : List ℕ = e.public_key.key.octets in
    let content : List ℕ = e.public_key.key.unused_bits ∷ octets in
    let field = ends_value 3 octets content (ends_cons e.public_key.key.unused_bits octets) in
    ends_same octets (octets ++ []) (entry_der e) (sym (append-nil octets))
    (in_public octets e (ends_second (algorithm_der e.public_key.algorithm) octets (bits_field e) field))

pub field_end : (e : Entry) → Ends (bits_field e) (entry_der e)
field_end e = in_public (bits_field e) e (ends_second (algorithm_der e.public_key.algorithm) (bits_field e) (bits_field e) (ends_self (bits_field e)))

algorithm_end : (oid : List ℕ) (parameters : Option PlainAny) (p : PlainAny) → parameters ≡ Some p
    → Ends p.content (encode 48 (encode 6 oid ++ optional_bytes der_of parameters))
algorithm_end oid parameters p e =
    rw e (ends_value 48 p.content (encode 6 oid ++ der_of p)
    (ends_second (encode 6 oid) p.content (der_of p) (ends_value p.tag p.content p.content (ends_self p.content))))

pub parameters_end : (e : Entry) (p : PlainAny) → e.public_key.algorithm.parameters ≡ Some p → Ends (p.content ++ bits_field e) (entry_der e)
parameters_end e p is =
    in_public (p.content ++ bits_field e) e (ends_first p.content (algorithm_der e.public_key.algorithm) (bits_field e)
    (algorithm_end e.public_key.algorithm.oid e.public_key.algorithm.parameters p is))

-- what ends the private key stands before the public one
in_private : (tail : List ℕ) (e : Entry) → Ends tail (fields_written plain_texts e.private_key) → Ends (tail ++ public_key_der e.public_key) (entry_der e)
in_private tail e x =
    in_entry (tail ++ public_key_der e.public_key) e (ends_first tail (private_key_der e.private_key) (public_key_der e.public_key)
    (ends_value 48 tail (fields_written plain_texts e.private_key) x))

abbrev before_attributes : Entry → List ℕ
before_attributes e = encode 2 (version_byte (version_of e.private_key.public_key) ∷ []) ++ algorithm_der e.private_key.algorithm
    ++ encode 4 e.private_key.private_key

pub octets_end : (e : Entry) → Ends (e.private_key.private_key ++ behind_octets e) (entry_der e)
octets_end e =
    let octets : List ℕ = e.private_key.private_key in
    let front : List ℕ = encode 2 (version_byte (version_of e.private_key.public_key) ∷ []) ++ algorithm_der e.private_key.algorithm in
    let attributes : List ℕ = attributes_field e.private_key.attributes in
    let held : List ℕ = held_field e.private_key.public_key in
    let public : List ℕ = public_key_der e.public_key in
    let first = ends_second front octets (encode 4 octets) (ends_value 4 octets octets (ends_self octets)) in
    let content = ends_first octets (front ++ encode 4 octets) (attributes ++ held) first in
    ends_same ((octets ++ (attributes ++ held)) ++ public) (octets ++ (attributes ++ (held ++ public))) (entry_der e)
    (append_assoc octets (attributes ++ held) public ∙ ap (λ (x : List ℕ). octets ++ x) (append_assoc attributes held public))
    (in_private (octets ++ (attributes ++ held)) e content)

field_of : (attributes : Option (List ℕ)) (content : List ℕ) → attributes ≡ Some content → Ends content (attributes_field attributes)
field_of attributes content is = rw is (ends_value attributes_tag content content (ends_self content))

pub attributes_end : (e : Entry) (content : List ℕ) → e.private_key.attributes ≡ Some content → Ends (content ++ behind_attributes e) (entry_der e)
attributes_end e content is =
    let held : List ℕ = held_field e.private_key.public_key in
    let public : List ℕ = public_key_der e.public_key in
    let attributes : List ℕ = attributes_field e.private_key.attributes in
    let field = ends_first content attributes held (field_of e.private_key.attributes content is) in
    let three = ends_second (before_attributes e) (content ++ held) (attributes ++ held) field in
    ends_same ((content ++ held) ++ public) (content ++ (held ++ public)) (entry_der e) (append_assoc content held public)
    (in_private (content ++ held) e three)

ends_suffix : (a b whole : List ℕ) → Ends (a ++ b) whole → Ends b whole
ends_suffix a b whole x = record { front = x.front ++ a; is = x.is ∙ sym (append_assoc x.front a b) }

pub behind_octets_end : (e : Entry) → Ends (behind_octets e) (entry_der e)
behind_octets_end e = ends_suffix e.private_key.private_key (behind_octets e) (entry_der e) (octets_end e)

-- a part that stands before the last `back` bytes of the entry
pub found_in : (document bytes middle back : List ℕ) (end : ℕ) (p : Place) → StandsAt document bytes end → Ends (middle ++ back) bytes
    → p.end + length back ≡ end → p.start + length middle ≡ p.end → FoundAt document p middle
found_in document bytes middle back end p s e after before = found_at document s.pre bytes s.post middle back end p s.is s.at e after before

pub room : (document bytes middle back : List ℕ) (end : ℕ) → StandsAt document bytes end → Ends (middle ++ back) bytes → length back + length middle ≤ end
room document bytes middle back end s e =
    let whole : length bytes ≡ length e.front + (length middle + length back) =
    ap length e.is ∙ length-append e.front (middle ++ back) ∙ ap (λ (n : ℕ). length e.front + n) (length-append middle back) in
    let at = s.at in
    omega arith

pub tail_fits : (document bytes tail : List ℕ) (end : ℕ) → StandsAt document bytes end → Ends tail bytes → length document < 2 ^ 32 → length tail < 2 ^ 32
tail_fits document bytes tail end s e small =
    let whole : length bytes ≡ length e.front + length tail = ap length e.is ∙ length-append e.front tail in
    let all : length document ≡ length s.pre + (length bytes + length s.post) =
    ap length s.is ∙ length-append s.pre (bytes ++ s.post) ∙ ap (λ (n : ℕ). length s.pre + n) (length-append bytes s.post) in
    omega arith

pub public_end : (e : Entry) → Ends (public_key_der e.public_key) (entry_der e)
public_end e = in_entry (public_key_der e.public_key) e (ends_second (private_key_der e.private_key) (public_key_der e.public_key)
    (public_key_der e.public_key) (ends_self (public_key_der e.public_key)))

pub behind_fits : (document : List ℕ) (e : Entry) (end : ℕ) → StandsAt document (entry_der e) end → length document < 2 ^ 32
    → length (attributes_field e.private_key.attributes) + (length (held_field e.private_key.public_key) + length (public_key_der e.public_key)) < 2 ^ 32
behind_fits document e end s small =
    let fits = tail_fits document (entry_der e) (behind_octets e) end s (behind_octets_end e) small in
    let sum = length-append (attributes_field e.private_key.attributes) (behind_attributes e) in
    let both = length-append (held_field e.private_key.public_key) (public_key_der e.public_key) in
    omega arith

-- the public key of an entry that stands in a document is not too long
pub public_key_fits : (document : List ℕ) (e : Entry) (end : ℕ) → StandsAt document (entry_der e) end → length document < 2 ^ 32
    → length (public_key_der e.public_key) < 2 ^ 32
public_key_fits document e end stands small = tail_fits document (entry_der e) (public_key_der e.public_key) end stands (public_end e) small
