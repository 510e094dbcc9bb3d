-- Private keys (RFC 5208, 5, and RFC 5958, 2): SEQUENCE { version, algorithm, privateKey OCTET STRING, attributes [0] OPTIONAL, publicKey [1]
-- OPTIONAL, extensions }.
use Rattle.std.specs.Prelude.{◌≡◌, ℕ, ◌∷◌, ◌<◌, ◌^◌, List, [], ◌++◌, length, Option, Some, None, option_map}
use Rattle.der_core.specs.Decode.{ReadsTagged}
use Rattle.der_core.specs.Der.{encode}
use Rattle.der_core.specs.Sequence.{Then}
use Rattle.der_core.specs.Tags.{integer_tag}
use Rattle.pkcs8.specs.Extensions.{IsExtensions}
use Rattle.pkcs8.specs.Version.{version_byte, version_of}
use Rattle.pkcs8.specs.declared.version.Version.{Version}

-- The parts of a private key: what it is a key of, its octets, its attributes and its public key.
pub record KeyParts (A K B T : Type 0) : Type 0 where
  pub algorithm : A
  pub private_key : K
  pub attributes : Option T
  pub public_key : Option B

-- The same parts, each seen in another way.
abbrev pub map_parts : {A K B T A' K' B' T' : Type 0} → (A → A') → (K → K') → (B → B') → (T → T') → KeyParts A K B T → KeyParts A' K' B' T'
map_parts f g h j v = record {
  algorithm = f v.algorithm;
  private_key = g v.private_key;
  attributes = option_map j v.attributes;
  public_key =
      option_map h v.public_key;
}

-- What the parts read as: the algorithm and the private key from their encodings, the attributes and the public key from their contents.
pub record PartReads (A K B T : Type 0) : Type 1 where
  pub algorithm : List ℕ → A → Type 0
  pub private_key : List ℕ → K → Type 0
  pub attributes : List ℕ → T → Type 0
  pub public_key : List ℕ → B → Type 0

-- What is written of the parts: the encodings of the algorithm and of the private key, the contents of the attributes and of the public key.
pub record PartTexts (A K B T : Type 0) : Type 0 where
  pub algorithm : A → List ℕ
  pub private_key : K → List ℕ
  pub attributes : T → List ℕ
  pub public_key : B → List ℕ

-- The tags of the two fields that may be absent.
abbrev pub attributes_tag : ℕ
attributes_tag = 160

abbrev pub public_key_tag : ℕ
public_key_tag = 129

abbrev pub ReadsVersion : List ℕ → Version → Type 0
ReadsVersion = ReadsTagged integer_tag (λ b v. b ≡ version_byte v ∷ [])

-- The public key where there is one, and the extensions.
abbrev pub AfterAttributes : {B : Type 0} → (List ℕ → B → Type 0) → Option B → List ℕ → Type 0
AfterAttributes HasB None = λ bytes. IsExtensions bytes
AfterAttributes HasB (Some k) = λ bytes. Then (ReadsTagged public_key_tag HasB) IsExtensions bytes k

-- No field of this tag stands at the front.
abbrev pub NoField : ℕ → List ℕ → Type 0
NoField tag bytes = (content rest : List ℕ) → length (encode tag content) < 2 ^ 32 → bytes ≡ encode tag content ++ rest → ⊥

-- The attributes where there are some, and then the public key. A field with their tag directly after the private key is always they.
abbrev pub AfterKey : {B T : Type 0} → (List ℕ → T → Type 0) → (List ℕ → B → Type 0) → Option T → Option B → List ℕ → Type 0
AfterKey HasT HasB None public = λ bytes. NoField attributes_tag bytes × AfterAttributes HasB public bytes
AfterKey HasT HasB (Some t) public = λ bytes. Then (ReadsTagged attributes_tag HasT) (AfterAttributes HasB public) bytes t

-- The fields of the sequence. The version says whether there is a public key.
abbrev pub PrivateKeyFields : {A K B T : Type 0} → PartReads A K B T → List ℕ → KeyParts A K B T → Type 0
PrivateKeyFields reads bytes v =
    Then ReadsVersion
    (λ after. Then reads.algorithm
    (λ after. Then reads.private_key (AfterKey reads.attributes reads.public_key v.attributes v.public_key) after v.private_key)
    after v.algorithm)
    bytes (version_of v.public_key)

-- What is written of a field that may be absent.
abbrev pub optional_field : {X : Type 0} → ℕ → (X → List ℕ) → Option X → List ℕ
optional_field tag content None = []
optional_field tag content (Some x) = encode tag (content x)

-- What is written behind the private key.
abbrev pub after_key_written : {B T : Type 0} → (T → List ℕ) → (B → List ℕ) → Option T → Option B → List ℕ
after_key_written textT textB attributes public = optional_field attributes_tag textT attributes ++ optional_field public_key_tag textB public

-- What is written of the fields: no extensions.
abbrev pub fields_written : {A K B T : Type 0} → PartTexts A K B T → KeyParts A K B T → List ℕ
fields_written texts v =
    encode integer_tag (version_byte (version_of v.public_key) ∷ []) ++ texts.algorithm v.algorithm ++ texts.private_key v.private_key
    ++ after_key_written texts.attributes texts.public_key v.attributes v.public_key
