-- The owned form reads what the borrowed one reads.
use Rattle.std.proofs.Common.{◌≡◌, ℕ, ◌<◌, ◌^◌, List, ◌∷◌, length, Option, Some, None, refl, subst, sym}
use Rattle.der_core.specs.Any.{plain_ref}
use Rattle.der_core.specs.Decode.{ReadsTagged}
use Rattle.der_core.specs.Laws.{content_fits}
use Rattle.der_core.specs.declared.any.AnyRef.{AnyRef}
use Rattle.der_core.proofs.Owned.{SameReads, same_tagged}
use Rattle.der_small.specs.Bits.{BitsContent}
use Rattle.der_small.specs.BitString.{plain_bits_ref}
use Rattle.der_small.specs.OctetString.{octets_ref}
use Rattle.der_small.specs.declared.bit_string.BitStringRef.{BitStringRef}
use Rattle.der_small.specs.declared.octet_string.OctetStringRef.{OctetStringRef}
use Rattle.spki.specs.PlainAlgorithm.{plain_algorithm}
use Rattle.spki.specs.declared.algorithm.AlgorithmIdentifier.{AlgorithmIdentifier}
use Rattle.spki.proofs.Owned.{BorrowsAny, ReadsAlgorithmRef, algorithm_plain, same_algorithms}
use Rattle.pkcs8.specs.Attributes.{attributes_bytes_ref}
use Rattle.pkcs8.specs.PlainPrivateKey.{PlainPrivateKey, PlainKeyContent, ReadsOctets, ReadsPrivateKey, plain_reads, plain_private_key_ref}
use Rattle.pkcs8.specs.PrivateKey.{KeyParts, PartReads, ReadsVersion, AfterAttributes, AfterKey, PrivateKeyFields, attributes_tag, public_key_tag}
use Rattle.pkcs8.specs.PrivateKeyInfo.{PrivateKeyContent, parts_of}
use Rattle.pkcs8.specs.Version.{version_of}
use Rattle.pkcs8.specs.declared.attributes.AttributesRef.{AttributesRef}
use Rattle.pkcs8.specs.declared.private_key_info.PrivateKeyInfo.{PrivateKeyInfo}
use Rattle.pkcs8.proofs.Parts.{PartsTo, fields_to}

-- A borrowed value for the plain one of each content.
pub record BorrowsContent {B C : Type 0} (H : List ℕ → B → Type 0) (J : List ℕ → C → Type 0) : Type 0 where
  pub of : (c : List ℕ) (v : C) → J c v → length c < 2 ^ 32 → B
  pub reads : (c : List ℕ) (v : C) (j : J c v) (fits : length c < 2 ^ 32) → H c (of c v j fits)

-- A borrowed value for each plain part.
pub record PartsBack {A K B T A' K' B' T' : Type 0} (reads : PartReads A K B T) (plain : PartReads A' K' B' T') : Type 0 where
  pub algorithm : SameReads reads.algorithm plain.algorithm
  pub private_key : SameReads reads.private_key plain.private_key
  pub attributes : BorrowsContent reads.attributes plain.attributes
  pub public_key : BorrowsContent reads.public_key plain.public_key

record SomeTagged {B : Type 0} (H : List ℕ → B → Type 0) (tag : ℕ) (b : List ℕ) : Type 0 where
  value : B
  reads : ReadsTagged tag H b value

tagged_back : {B C : Type 0} (H : List ℕ → B → Type 0) (J : List ℕ → C → Type 0) → BorrowsContent H J → (tag : ℕ) (b : List ℕ) (v : C)
    → ReadsTagged tag J b v → SomeTagged H tag b
tagged_back H J of tag b v r =
    let fits = content_fits tag r.content (subst (λ (x : List ℕ). length x < 2 ^ 32) r.is r.fits) in
    record {
      value = of.of r.content v r.has fits;
      reads = record { content = r.content; has = of.reads r.content v r.has fits; is = r.is; fits = r.fits };
    }

record SomePublic {B C : Type 0} (H : List ℕ → B → Type 0) (k : Option C) (s : List ℕ) : Type 0 where
  public : Option B
  version : version_of public ≡ version_of k
  after : AfterAttributes H public s

public_back : {B C : Type 0} (H : List ℕ → B → Type 0) (J : List ℕ → C → Type 0) → BorrowsContent H J → (k : Option C) (s : List ℕ) → AfterAttributes J k s
    → SomePublic H k s
public_back H J of None s a = record { public = None; version = refl; after = a }
public_back H J of (Some k) s a =
    let back = tagged_back H J of public_key_tag a.front k a.reads in
    record { public = Some back.value; version = refl; after = record { front = a.front; rest = a.rest; is = a.is; reads = back.reads; next = a.next } }

record SomeTail {B T C : Type 0} (HT : List ℕ → T → Type 0) (HB : List ℕ → B → Type 0) (k : Option C) (s : List ℕ) : Type 0 where
  attributes : Option T
  public : Option B
  version : version_of public ≡ version_of k
  after : AfterKey HT HB attributes public s

tail_back : {B T C U : Type 0} (HT : List ℕ → T → Type 0) (HB : List ℕ → B → Type 0) (JT : List ℕ → U → Type 0) (JB : List ℕ → C → Type 0)
    → BorrowsContent HT JT → BorrowsContent HB JB → (t : Option U) (k : Option C) (s : List ℕ) → AfterKey JT JB t k s → SomeTail HT HB k s
tail_back HT HB JT JB ofT ofB None k s a =
    let back = public_back HB JB ofB k s a.1 in
    record { attributes = None; public = back.public; version = back.version; after = (a.0, back.after) }
tail_back HT HB JT JB ofT ofB (Some t) k s a =
    let back = public_back HB JB ofB k a.rest a.next in
    let attributes = tagged_back HT JT ofT attributes_tag a.front t a.reads in
    record {
      attributes = Some attributes.value;
      public = back.public;
      version = back.version;
      after = record { front = a.front; rest = a.rest; is = a.is; reads = attributes.reads; next = back.after };
    }

record SomeFields {A K B T : Type 0} (reads : PartReads A K B T) (s : List ℕ) : Type 0 where
  parts : KeyParts A K B T
  fields : PrivateKeyFields reads s parts

fields_back : {A K B T A' K' B' T' : Type 0} (reads : PartReads A K B T) (plain : PartReads A' K' B' T') → PartsBack reads plain
    → (s : List ℕ) (v : KeyParts A' K' B' T') → PrivateKeyFields plain s v → SomeFields reads s
fields_back reads plain back s v t =
    let algorithm = t.next in
    let key = algorithm.next in
    let tail = tail_back reads.attributes reads.public_key plain.attributes plain.public_key back.attributes back.public_key v.attributes v.public_key
    key.rest key.next in
    record {
      parts = record {
        algorithm = back.algorithm.borrowed algorithm.front v.algorithm algorithm.reads;
        private_key = back.private_key.borrowed key.front v.private_key key.reads;
        attributes = tail.attributes;
        public_key = tail.public;
      };
      fields = record {
        front = t.front;
        rest = t.rest;
        is = t.is;
        reads = subst (ReadsVersion t.front) (sym tail.version) t.reads;
        next = record {
          front = algorithm.front;
          rest = algorithm.rest;
          is = algorithm.is;
          reads = back.algorithm.borrowed_reads algorithm.front v.algorithm algorithm.reads;
          next = record {
            front = key.front;
            rest = key.rest;
            is = key.is;
            reads = back.private_key.borrowed_reads key.front v.private_key key.reads;
            next = tail.after;
          };
        };
      };
    }

abbrev pub HasOctetsRef : List ℕ → OctetStringRef → Type 0
HasOctetsRef = λ b v. v.bytes.now ≡ b

abbrev pub HasBitsRef : List ℕ → BitStringRef → Type 0
HasBitsRef = λ b v. b ≡ v.unused_bits ∷ v.raw.now

abbrev pub HasAttributesRef : List ℕ → AttributesRef → Type 0
HasAttributesRef = λ b v. v.content.now ≡ b

abbrev pub borrowed_reads : PartReads (AlgorithmIdentifier AnyRef) OctetStringRef BitStringRef AttributesRef
borrowed_reads = record { algorithm = ReadsAlgorithmRef; private_key = ReadsTagged 4 HasOctetsRef; attributes = HasAttributesRef; public_key = HasBitsRef }

abbrev pub KeyContentRef : List ℕ → PrivateKeyInfo AnyRef OctetStringRef BitStringRef AttributesRef → Type 0
KeyContentRef = PrivateKeyContent borrowed_reads

to_plain : PartsTo borrowed_reads plain_reads
to_plain = record {
  algorithm = plain_algorithm plain_ref;
  reads_algorithm = algorithm_plain;
  private_key = octets_ref;
  reads_private_key = λ b v r. record { content = r.content; has = r.has; is = r.is; fits = r.fits };
  attributes = attributes_bytes_ref;
  has_attributes = λ c v h. h;
  public_key = plain_bits_ref;
  has_public_key = λ c v h. record { bits = v.are_bits; is = h };
}

pub key_plain : (c : List ℕ) (v : PrivateKeyInfo AnyRef OctetStringRef BitStringRef AttributesRef) → KeyContentRef c v
    → PlainKeyContent c (plain_private_key_ref v)
unfolding to_plain
key_plain c v t = fields_to borrowed_reads plain_reads to_plain c (parts_of v) t

pub reads_plain : (b : List ℕ) (v : PrivateKeyInfo AnyRef OctetStringRef BitStringRef AttributesRef) → ReadsTagged 48 KeyContentRef b v
    → ReadsPrivateKey b (plain_private_key_ref v)
reads_plain b v r = record { content = r.content; has = key_plain r.content v r.has; is = r.is; fits = r.fits }

-- The borrowed forms of the parts that are octets and bits, where these can be borrowed.
pub record BorrowsParts : Type 0 where
  pub any : BorrowsAny
  pub octets : SameReads (ReadsTagged 4 HasOctetsRef) ReadsOctets
  pub attributes : BorrowsContent HasAttributesRef plain_reads.attributes
  pub bits : BorrowsContent HasBitsRef BitsContent

key_back : BorrowsParts → (c : List ℕ) (p : PlainPrivateKey) → PlainKeyContent c p → SomeFields borrowed_reads c
key_back borrows c p t =
    fields_back borrowed_reads plain_reads (record {
      algorithm = same_algorithms borrows.any;
      private_key = borrows.octets;
      attributes = borrows.attributes;
      public_key = borrows.bits;
    }) c p t

pub same_private_keys : BorrowsParts → SameReads (ReadsTagged 48 KeyContentRef) ReadsPrivateKey
same_private_keys borrows =
    same_tagged 48 KeyContentRef PlainKeyContent plain_private_key_ref key_plain
    (λ c p t fits.
    let parts = (key_back borrows c p t).parts in
    record { algorithm = parts.algorithm; private_key = parts.private_key; attributes = parts.attributes; public_key = parts.public_key })
    (λ c p t fits. (key_back borrows c p t).fields)
