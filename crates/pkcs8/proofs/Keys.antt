-- Where the parts of a private key cannot be read, there is none.
use Rattle.std.proofs.Common.{◌≡◌, ℕ, ◌<◌, ◌^◌, List, ◌++◌, length, Option, Some, None, Result, refl}
use Rattle.std.specs.Prelude.{OnErr}
use Rattle.der_core.specs.Der.{IsTag, IsValue, encode}
use Rattle.der_core.specs.Decode.{Front, NoFront, ReadsTagged, ReadsTagged-one_value}
use Rattle.der_core.specs.SequenceLaws.{field_same, then_none, then_same}
use Rattle.der_core.specs.Tags.{tag_129, tag_160}
use Rattle.der_core.proofs.Tagged.{on_err_any}
use Rattle.spki.specs.declared.algorithm.AlgorithmIdentifier.{AlgorithmIdentifier}
use Rattle.pkcs8.specs.Extensions.{IsExtensions}
use Rattle.pkcs8.specs.Version.{version_of}
use Rattle.pkcs8.specs.ReadLaws.{one_version, version_value}
use Rattle.pkcs8.specs.PrivateKey.{KeyParts, PartReads, ReadsVersion, AfterAttributes, AfterKey, PrivateKeyFields, attributes_tag, public_key_tag}
use Rattle.pkcs8.specs.PrivateKeyInfo.{PrivateKeyContent, parts_of}
use Rattle.pkcs8.specs.declared.private_key_info.PrivateKeyInfo.{PrivateKeyInfo}
use Rattle.pkcs8.specs.declared.version.Version.{Version}
use Rattle.pkcs8.specs.declared.version.Version.TheVariants.{V2}

-- What is read of a field of the tag of the public key.
pub record PublicField {B : Type 0} (H : List ℕ → B → Type 0) (content rest : List ℕ) : Type 0 where
  pub key : B
  pub has : H content key
  pub next : IsExtensions rest

pub public_field : {B : Type 0} (H : List ℕ → B → Type 0) (s content rest : List ℕ) → s ≡ encode public_key_tag content ++ rest
    → length (encode public_key_tag content) < 2 ^ 32 → (k : Option B) → version_of k ≡ V2 → AfterAttributes H k s → PublicField H content rest
public_field H s content rest is fits None e a = cc
public_field H s content rest is fits (Some k) e a =
    let f = field_same H IsExtensions public_key_tag s (encode public_key_tag content) rest public_key_tag content k tag_129 tag_129
    (record { is = refl; fits = fits }) is a in
    record { key = k; has = f.has; next = f.next }

-- What is read of a field of the tag of attributes.
pub record AttributesField {B T : Type 0} (HT : List ℕ → T → Type 0) (HB : List ℕ → B → Type 0) (k : Option B) (content rest : List ℕ) : Type 0 where
  pub attributes : T
  pub has : HT content attributes
  pub next : AfterAttributes HB k rest

pub attributes_field : {B T : Type 0} (HT : List ℕ → T → Type 0) (HB : List ℕ → B → Type 0) (s content rest : List ℕ) (t : Option T) (k : Option B)
    → s ≡ encode attributes_tag content ++ rest → length (encode attributes_tag content) < 2 ^ 32 → AfterKey HT HB t k s → AttributesField HT HB k content rest
attributes_field HT HB s content rest None k is fits a = absurd (a.0 content rest fits is)
attributes_field HT HB s content rest (Some t) k is fits a =
    let f = field_same HT (AfterAttributes HB k) attributes_tag s (encode attributes_tag content) rest attributes_tag content t tag_160 tag_160
    (record { is = refl; fits = fits }) is a in
    record { attributes = t; has = f.has; next = f.next }

pub no_version : {A K B T : Type 0} (reads : PartReads A K B T) (s : List ℕ) → NoFront ReadsVersion s → (v : KeyParts A K B T) → PrivateKeyFields reads s v → ⊥
no_version reads s none v c = then_none ReadsVersion _ s (version_of v.public_key) none c

pub no_algorithm : {A K B T : Type 0} (reads : PartReads A K B T) (s s1 : List ℕ) (n : Version) → Front ReadsVersion s s1 n → NoFront reads.algorithm s1
    → (v : KeyParts A K B T) → PrivateKeyFields reads s v → ⊥
no_algorithm reads s s1 n f none v c =
    let version = then_same ReadsVersion _ s s1 n (version_of v.public_key) version_value f c in
    then_none reads.algorithm _ s1 v.algorithm none version.next

-- The parts that stand with their tags are each one value.
pub record PartValues {A K B T : Type 0} (reads : PartReads A K B T) : Type 0 where
  pub algorithm : (b : List ℕ) (v : A) → reads.algorithm b v → IsValue b
  pub private_key : (b : List ℕ) (v : K) → reads.private_key b v → IsValue b

pub no_key : {A K B T : Type 0} (reads : PartReads A K B T) → PartValues reads → (s s1 s2 : List ℕ) (n : Version) (x : A) → Front ReadsVersion s s1 n
    → Front reads.algorithm s1 s2 x → NoFront reads.private_key s2 → (v : KeyParts A K B T) → PrivateKeyFields reads s v → ⊥
no_key reads values s s1 s2 n x f f1 none v c =
    let version = then_same ReadsVersion _ s s1 n (version_of v.public_key) version_value f c in
    let algorithm = then_same reads.algorithm _ s1 s2 x v.algorithm values.algorithm f1 version.next in
    then_none reads.private_key _ s2 v.private_key none algorithm.next

pub no_end : {A K B T : Type 0} (reads : PartReads A K B T) → PartValues reads → (s s1 s2 s3 : List ℕ) (n : Version) (x : A) (y : K)
    → Front ReadsVersion s s1 n → Front reads.algorithm s1 s2 x → Front reads.private_key s2 s3 y
    → ((t : Option T) (k : Option B) → version_of k ≡ n → AfterKey reads.attributes reads.public_key t k s3 → ⊥) → (v : KeyParts A K B T)
    → PrivateKeyFields reads s v → ⊥
no_end reads values s s1 s2 s3 n x y f f1 f2 none v c =
    let version = then_same ReadsVersion _ s s1 n (version_of v.public_key) version_value f c in
    let algorithm = then_same reads.algorithm _ s1 s2 x v.algorithm values.algorithm f1 version.next in
    let key = then_same reads.private_key _ s2 s3 y v.private_key values.private_key f2 algorithm.next in
    none v.attributes v.public_key (one_version f.front (version_of v.public_key) n version.reads f.reads) key.next

pub tagged_value : {V : Type 0} (tag : ℕ) (H : List ℕ → V → Type 0) → IsTag tag → (b : List ℕ) (v : V) → ReadsTagged tag H b v → IsValue b
tagged_value tag H t b v r = ReadsTagged-one_value tag H b v t r

-- Where no parts are read, no private key is, and a refusal says so.
pub refused : {P K B T X E : Type 0} (reads : PartReads (AlgorithmIdentifier P) K B T) (s : List ℕ) (r : Result X E)
    → ((v : KeyParts (AlgorithmIdentifier P) K B T) → PrivateKeyFields reads s v → ⊥) → OnErr r ((v : PrivateKeyInfo P K B T) → PrivateKeyContent reads s v → ⊥)
refused {P = P} {K = K} {B = B} {T = T} reads s r none =
    let whole : (v : PrivateKeyInfo P K B T) → PrivateKeyContent reads s v → ⊥ = λ v content. none (parts_of v) content in
    on_err_any r whole
