-- Private keys that are read from the same bytes are written alike.
use Rattle.std.proofs.Common.{◌≡◌, ℕ, List, Option, Some, None, refl, sym, ap, subst, ◌∙◌}
use Rattle.der_core.specs.Decode.{ReadsTagged}
use Rattle.der_core.specs.Der.{encode}
use Rattle.der_core.specs.Tags.{tag_48}
use Rattle.spki.specs.declared.algorithm.AlgorithmIdentifier.{AlgorithmIdentifier}
use Rattle.pkcs8.specs.PrivateKey.{KeyParts, PartReads, PartTexts, PrivateKeyFields, fields_written, map_parts}
use Rattle.pkcs8.specs.PrivateKeyInfo.{PrivateKeyContent, parts_of, private_key_encoding}
use Rattle.pkcs8.specs.ReadLaws.{ContentOne, one_fields, same_contents}
use Rattle.pkcs8.specs.declared.private_key_info.PrivateKeyInfo.{PrivateKeyInfo}
use Rattle.pkcs8.proofs.Keys.{PartValues}
use Rattle.pkcs8.proofs.Parts.{PartsTo, fields_to}
use Rattle.der_core.specs.Readings.{AreWritten}

-- What is read of each part is what is written of it.
pub record PartsWritten {A K B T : Type 0} (reads : PartReads A K B T) (texts : PartTexts A K B T) : Type 0 where
  pub algorithm : (b : List ℕ) (v : A) → reads.algorithm b v → b ≡ texts.algorithm v
  pub private_key : (b : List ℕ) (v : K) → reads.private_key b v → b ≡ texts.private_key v
  pub attributes : (c : List ℕ) (v : T) → reads.attributes c v → c ≡ texts.attributes v
  pub public_key : (c : List ℕ) (v : B) → reads.public_key c v → c ≡ texts.public_key v

-- In place of a value that is read from the bytes, the bytes themselves.
record Written {V : Type 0} (Reads : List ℕ → V → Type 0) (bytes text : List ℕ) : Type 0 where
  pub is : text ≡ bytes
  pub value : V
  pub reads : Reads bytes value

written : {V : Type 0} (Reads : List ℕ → V → Type 0) (text : V → List ℕ) → AreWritten Reads text → (b : List ℕ) (v : V) → Reads b v → Written Reads b (text v)
written Reads text law b v r = record { is = sym (law b v r); value = v; reads = r }

written_one : {V : Type 0} (Reads : List ℕ → V → Type 0) → ContentOne (Written Reads)
written_one Reads b x y r s = r.is ∙ sym s.is

abbrev written_reads : {A K B T : Type 0} → PartReads A K B T → PartReads (List ℕ) (List ℕ) (List ℕ) (List ℕ)
written_reads reads = record {
  algorithm = Written reads.algorithm;
  private_key = Written reads.private_key;
  attributes = Written reads.attributes;
  public_key = Written reads.public_key;
}

abbrev texts_of : {A K B T : Type 0} → PartTexts A K B T → KeyParts A K B T → KeyParts (List ℕ) (List ℕ) (List ℕ) (List ℕ)
texts_of texts v = map_parts texts.algorithm texts.private_key texts.public_key texts.attributes v

-- The bytes of each part.
abbrev as_they_are : PartTexts (List ℕ) (List ℕ) (List ℕ) (List ℕ)
as_they_are = record { algorithm = λ x. x; private_key = λ x. x; attributes = λ x. x; public_key = λ x. x }

module _ {A K B T : Type 0} (reads : PartReads A K B T) (texts : PartTexts A K B T) where
  to_texts : PartsWritten reads texts → PartsTo reads (written_reads reads)
  to_texts law = record {
    algorithm = texts.algorithm;
    reads_algorithm = written reads.algorithm texts.algorithm law.algorithm;
    private_key = texts.private_key;
    reads_private_key = written reads.private_key texts.private_key law.private_key;
    attributes = texts.attributes;
    has_attributes = written reads.attributes texts.attributes law.attributes;
    public_key = texts.public_key;
    has_public_key = written reads.public_key texts.public_key law.public_key;
  }

  fields_of_texts : PartsWritten reads texts → (s : List ℕ) (v : KeyParts A K B T) → PrivateKeyFields reads s v
      → PrivateKeyFields (written_reads reads) s (texts_of texts v)
  unfolding to_texts
  fields_of_texts law s v r = fields_to reads (written_reads reads) (to_texts law) s v r

  same_texts : PartValues reads → PartsWritten reads texts → (s : List ℕ) (v w : KeyParts A K B T) → PrivateKeyFields reads s v → PrivateKeyFields reads s w
      → texts_of texts v ≡ texts_of texts w
  same_texts values law s v w r r' =
      one_fields (written_reads reads)
      (record {
        algorithm = record { value = λ b x h. values.algorithm b h.value h.reads; one = written_one reads.algorithm };
        private_key = record { value = λ b x h. values.private_key b h.value h.reads; one = written_one reads.private_key };
        attributes = written_one reads.attributes;
        public_key = written_one reads.public_key;
      })
      s (texts_of texts v) (texts_of texts w) (fields_of_texts law s v r) (fields_of_texts law s w r')

from_texts : {A K B T : Type 0} (texts : PartTexts A K B T) (a : A) (k : K) (t : Option T) (b : Option B)
    → fields_written texts (record { algorithm = a; private_key = k; attributes = t; public_key = b })
    ≡ fields_written as_they_are (texts_of texts (record { algorithm = a; private_key = k; attributes = t; public_key = b }))
from_texts texts a k None None = refl
from_texts texts a k None (Some b) = refl
from_texts texts a k (Some t) None = refl
from_texts texts a k (Some t) (Some b) = refl

pub written_alike : {P K B T : Type 0} (reads : PartReads (AlgorithmIdentifier P) K B T) (texts : PartTexts (AlgorithmIdentifier P) K B T)
    → PartValues reads → PartsWritten reads texts → (bytes : List ℕ) (v w : PrivateKeyInfo P K B T) → ReadsTagged 48 (PrivateKeyContent reads) bytes v
    → ReadsTagged 48 (PrivateKeyContent reads) bytes w → private_key_encoding texts v ≡ private_key_encoding texts w
written_alike reads texts values law bytes v w r s =
    let is = same_contents 48 (PrivateKeyContent reads) tag_48 bytes v w r s in
    let alike = same_texts reads texts values law s.content (parts_of v) (parts_of w)
    (subst (λ (x : List ℕ). PrivateKeyFields reads x (parts_of v)) is r.has) s.has in
    ap (λ (x : List ℕ). encode 48 x) (from_texts texts v.algorithm v.private_key v.attributes v.public_key
    ∙ ap (λ (x : KeyParts (List ℕ) (List ℕ) (List ℕ) (List ℕ)). fields_written as_they_are x) alike
    ∙ sym (from_texts texts w.algorithm w.private_key w.attributes w.public_key))
