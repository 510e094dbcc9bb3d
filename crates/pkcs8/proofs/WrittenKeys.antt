-- What is written of a private key is read again.
use Rattle.std.proofs.Common.{◌≡◌, ℕ, ◌<◌, ◌^◌, List, [], ◌∷◌, ◌++◌, length, Option, Some, None, IfSome, refl, sym, ap, ◌∙◌, arith, append_assoc, append-nil}
use Rattle.std.proofs.Common.{length-append}
use Rattle.der_core.specs.Decode.{ReadsTagged}
use Rattle.der_core.specs.Der.{encode}
use Rattle.der_core.specs.Laws.{content_fits, length_encode}
use Rattle.der_core.specs.SequenceLaws.{front_fits, rest_fits}
use Rattle.der_core.specs.Tags.{tag_129, tag_160}
use Rattle.der_core.specs.ValueLaws.{same_value}
use Rattle.der_small.specs.Bits.{PlainBits, BitsContent}
use Rattle.spki.specs.declared.algorithm.AlgorithmIdentifier.{AlgorithmIdentifier}
use Rattle.pkcs8.specs.Version.{version_byte, version_of}
use Rattle.pkcs8.specs.PlainPrivateKey.{PlainPrivateKey, ReadsPrivateKey, bits_content, plain_reads, plain_texts, private_key_der}
use Rattle.pkcs8.specs.PrivateKey.{KeyParts, PartReads, PartTexts, AfterAttributes, AfterKey, NoField, PrivateKeyFields, attributes_tag, fields_written}
use Rattle.pkcs8.specs.PrivateKey.{optional_field, public_key_tag}
use Rattle.pkcs8.specs.PrivateKeyInfo.{PrivateKeyContent, parts_of, private_key_content, private_key_encoding}
use Rattle.pkcs8.specs.ReadLaws.{reads_one_private_key}
use Rattle.pkcs8.specs.declared.private_key_info.PrivateKeyInfo.{PrivateKeyInfo}
use Rattle.pkcs8.proofs.Fields.{no_fields}

public_reads : {B : Type 0} (HB : List ℕ → B → Type 0) (text : B → List ℕ) (k : Option B) → IfSome k (λ k. HB (text k) k)
    → length (optional_field public_key_tag text k) < 2 ^ 32 → AfterAttributes HB k (optional_field public_key_tag text k)
public_reads HB text None law fits = no_fields [] refl
public_reads HB text (Some k) law fits = record {
  front = encode public_key_tag (text k);
  rest = [];
  is = sym (append-nil (encode public_key_tag (text k)));
  reads = record { content = text k; has = law; is = refl; fits = fits };
  next = no_fields [] refl;
}

-- A public key is no attributes, nor is nothing.
no_attributes : {B : Type 0} (text : B → List ℕ) (k : Option B) → length (optional_field public_key_tag text k) < 2 ^ 32
    → NoField attributes_tag (optional_field public_key_tag text k)
no_attributes text None fits content rest short is =
    let long : length (encode attributes_tag content ++ rest) ≡ 0 = sym (ap (λ (x : List ℕ). length x) is) in
    absurd (omega (arith, long, length-append (encode attributes_tag content) rest, length_encode attributes_tag content))
no_attributes text (Some k) fits content rest short is =
    let same = same_value public_key_tag (text k) [] attributes_tag content rest tag_129 fits tag_160 short
    (append-nil (encode public_key_tag (text k)) ∙ is) in
    let tags : public_key_tag ≡ attributes_tag = same.tags in
    absurd (omega arith)

tail_reads : {B T : Type 0} (HT : List ℕ → T → Type 0) (HB : List ℕ → B → Type 0) (textT : T → List ℕ) (textB : B → List ℕ) (t : Option T) (k : Option B)
    → IfSome t (λ t. HT (textT t) t) → IfSome k (λ k. HB (textB k) k) → length (optional_field attributes_tag textT t) < 2 ^ 32
    → length (optional_field public_key_tag textB k) < 2 ^ 32
    → AfterKey HT HB t k (optional_field attributes_tag textT t ++ optional_field public_key_tag textB k)
tail_reads HT HB textT textB None k lawT lawB fitsT fitsB = (no_attributes textB k fitsB, public_reads HB textB k lawB fitsB)
tail_reads HT HB textT textB (Some t) k lawT lawB fitsT fitsB = record {
  front = encode attributes_tag (textT t);
  rest = optional_field public_key_tag textB k;
  is = refl;
  reads = record { content = textT t; has = lawT; is = refl; fits = fitsT };
  next = public_reads HB textB k lawB fitsB;
}

-- What is written of each part is read as that part.
pub record PartsRead {A K B T : Type 0} (reads : PartReads A K B T) (texts : PartTexts A K B T) (v : KeyParts A K B T) : Type 0 where
  pub algorithm : reads.algorithm (texts.algorithm v.algorithm) v.algorithm
  pub private_key : reads.private_key (texts.private_key v.private_key) v.private_key
  pub attributes : IfSome v.attributes (λ t. reads.attributes (texts.attributes t) t)
  pub public_key : IfSome v.public_key (λ k. reads.public_key (texts.public_key k) k)

-- The fields that are written fit where all of them do.
pub record FieldsFit (n a k t d : List ℕ) : Type 0 where
  pub version : length n < 2 ^ 32
  pub algorithm : length a < 2 ^ 32
  pub private_key : length k < 2 ^ 32
  pub attributes : length t < 2 ^ 32
  pub public_key : length d < 2 ^ 32

fields_fit : (n a k t d : List ℕ) → length (n ++ a ++ k ++ (t ++ d)) < 2 ^ 32 → FieldsFit n a k t d
fields_fit n a k t d fits =
    let f3 = front_fits (n ++ a ++ k) (t ++ d) fits in
    let f2 = front_fits (n ++ a) k f3 in
    let tail = rest_fits (n ++ a ++ k) (t ++ d) fits in
    record {
      version = front_fits n a f2;
      algorithm = rest_fits n a f2;
      private_key = rest_fits (n ++ a) k f3;
      attributes = front_fits t d tail;
      public_key = rest_fits t d tail;
    }

pub fits_of : {A K B T : Type 0} (texts : PartTexts A K B T) (v : KeyParts A K B T) → length (fields_written texts v) < 2 ^ 32
    → FieldsFit (encode 2 (version_byte (version_of v.public_key) ∷ [])) (texts.algorithm v.algorithm) (texts.private_key v.private_key)
    (optional_field attributes_tag texts.attributes v.attributes) (optional_field public_key_tag texts.public_key v.public_key)
fits_of texts v fits = fields_fit _ _ _ _ _ fits

pub written_fields : {A K B T : Type 0} (reads : PartReads A K B T) (texts : PartTexts A K B T) (v : KeyParts A K B T) → PartsRead reads texts v
    → length (fields_written texts v) < 2 ^ 32 → PrivateKeyFields reads (fields_written texts v) v
written_fields reads texts v law fits =
    let n : List ℕ = encode 2 (version_byte (version_of v.public_key) ∷ []) in
    let a : List ℕ = texts.algorithm v.algorithm in
    let k : List ℕ = texts.private_key v.private_key in
    let t : List ℕ = optional_field attributes_tag texts.attributes v.attributes in
    let d : List ℕ = optional_field public_key_tag texts.public_key v.public_key in
    let fit = fields_fit n a k t d fits in
    record {
      front = n;
      rest = a ++ (k ++ (t ++ d));
      is = append_assoc (n ++ a) k (t ++ d) ∙ append_assoc n a (k ++ (t ++ d));
      reads = record { content = version_byte (version_of v.public_key) ∷ []; has = refl; is = refl; fits = fit.version };
      next = record {
        front = a;
        rest = k ++ (t ++ d);
        is = refl;
        reads = law.algorithm;
        next = record {
          front = k;
          rest = t ++ d;
          is = refl;
          reads = law.private_key;
          next = tail_reads reads.attributes reads.public_key texts.attributes texts.public_key v.attributes v.public_key law.attributes law.public_key
              fit.attributes fit.public_key;
        };
      };
    }

-- What is written of the values of each part is read as they are, where it is not too long.
pub record PartsReadAgain {A K B T : Type 0} (reads : PartReads A K B T) (texts : PartTexts A K B T) : Type 0 where
  pub algorithm : (v : A) → length (texts.algorithm v) < 2 ^ 32 → reads.algorithm (texts.algorithm v) v
  pub private_key : (v : K) → length (texts.private_key v) < 2 ^ 32 → reads.private_key (texts.private_key v) v
  pub attributes : (v : T) → length (texts.attributes v) < 2 ^ 32 → reads.attributes (texts.attributes v) v
  pub public_key : (v : B) → length (texts.public_key v) < 2 ^ 32 → reads.public_key (texts.public_key v) v

some_read : {X : Type 0} (H : List ℕ → X → Type 0) (text : X → List ℕ) (tag : ℕ) (o : Option X) → ((x : X) → length (text x) < 2 ^ 32 → H (text x) x)
    → length (optional_field tag text o) < 2 ^ 32 → IfSome o (λ x. H (text x) x)
some_read H text tag None law fits = tt
some_read H text tag (Some x) law fits = law x (content_fits tag (text x) fits)

pub written_key : {P K B T : Type 0} (reads : PartReads (AlgorithmIdentifier P) K B T) (texts : PartTexts (AlgorithmIdentifier P) K B T)
    → PartsReadAgain reads texts → (v : PrivateKeyInfo P K B T) → length (private_key_encoding texts v) < 2 ^ 32
    → ReadsTagged 48 (PrivateKeyContent reads) (private_key_encoding texts v) v
written_key reads texts law v fits =
    let fields = content_fits 48 (private_key_content texts v) fits in
    let fit = fits_of texts (parts_of v) fields in
    record {
      content = private_key_content texts v;
      is = refl;
      fits = fits;
      has = written_fields reads texts (parts_of v) (record {
        algorithm = law.algorithm v.algorithm fit.algorithm;
        private_key = law.private_key v.private_key fit.private_key;
        attributes = some_read reads.attributes texts.attributes attributes_tag v.attributes law.attributes fit.attributes;
        public_key = some_read reads.public_key texts.public_key public_key_tag v.public_key law.public_key fit.public_key;
      }) fields;
    }

some_plain : (t : Option (List ℕ)) → IfSome t (λ t. plain_reads.attributes (plain_texts.attributes t) t)
some_plain None = tt
some_plain (Some t) = refl

public_bits : (s : List ℕ) (b : Option PlainBits) → AfterAttributes BitsContent b s → IfSome b (λ k. BitsContent (bits_content k) k)
public_bits s None a = tt
public_bits s (Some k) a = record { bits = a.reads.has.bits; is = refl }

some_bits : (s : List ℕ) (t : Option (List ℕ)) (b : Option PlainBits) → AfterKey plain_reads.attributes BitsContent t b s
    → IfSome b (λ k. BitsContent (bits_content k) k)
some_bits s None b a = public_bits s b a.1
some_bits s (Some t) b a = public_bits a.rest b a.next

pub written_plain : (bytes : List ℕ) (key : PlainPrivateKey) → ReadsPrivateKey bytes key → length (private_key_der key) < 2 ^ 32
    → ReadsPrivateKey (private_key_der key) key
written_plain bytes key r fits =
    let fields = content_fits 48 (fields_written plain_texts key) fits in
    let fit = fits_of plain_texts key fields in
    record {
      content = fields_written plain_texts key;
      is = refl;
      fits = fits;
      has = written_fields plain_reads plain_texts key (record {
        algorithm = record { is = refl; fits = fit.algorithm; lawful = r.has.next.reads.lawful };
        private_key = record { content = key.private_key; has = refl; is = refl; fits = fit.private_key };
        attributes = some_plain key.attributes;
        public_key = some_bits r.has.next.next.rest key.attributes key.public_key r.has.next.next.next;
      }) fields;
    }

pub read_again : (bytes : List ℕ) (key other : PlainPrivateKey) → ReadsPrivateKey bytes key → ReadsPrivateKey (private_key_der key) other → other ≡ key
read_again bytes key other r s = reads_one_private_key.one (private_key_der key) other key s (written_plain bytes key r s.fits)
