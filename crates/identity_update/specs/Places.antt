-- Where bytes stand in a document.
use Rattle.std.specs.Prelude.{◌≡◌, ℕ, ◌+◌, List, ◌++◌, Option, length}
use Rattle.der_small.specs.Bits.{PlainBits}
use Rattle.spki.specs.PlainPublicKey.{public_key_der}
use Rattle.pkcs8.specs.PlainPrivateKey.{bits_content}
use Rattle.pkcs8.specs.PrivateKey.{attributes_tag, optional_field, public_key_tag}
use Rattle.identity_update.specs.Parts.{Entry}

-- the bytes stand in the document and end at this place
pub record StandsAt (document bytes : List ℕ) (end : ℕ) : Type 0 where
  pub pre : List ℕ
  pub post : List ℕ
  pub is : document ≡ pre ++ (bytes ++ post)
  pub at : length pre + length bytes ≡ end

-- the tail is the last of the whole
pub record Ends (tail whole : List ℕ) : Type 0 where
  pub front : List ℕ
  pub is : whole ≡ front ++ tail

-- the fields of a private key that may be absent, as they are written
abbrev pub attributes_field : Option (List ℕ) → List ℕ
attributes_field attributes = optional_field attributes_tag (λ content. content) attributes

abbrev pub held_field : Option PlainBits → List ℕ
held_field key = optional_field public_key_tag bits_content key

-- what stands behind the attributes in the encoding of an entry, and what stands behind the octets
abbrev pub behind_attributes : Entry → List ℕ
behind_attributes e = held_field e.private_key.public_key ++ public_key_der e.public_key

abbrev pub behind_octets : Entry → List ℕ
behind_octets e = attributes_field e.private_key.attributes ++ behind_attributes e
