-- A private key as plain data, without where its bytes lie.
use Rattle.std.specs.Prelude.{◌≡◌, ℕ, ◌∷◌, List}
use Rattle.der_core.specs.Any.{plain_ref, plain_any}
use Rattle.der_core.specs.Decode.{ReadsTagged}
use Rattle.der_core.specs.Der.{encode}
use Rattle.der_core.specs.Tags.{octet_string_tag, sequence_tag}
use Rattle.der_core.specs.declared.any.AnyRef.{AnyRef}
use Rattle.der_core.specs.declared.any.Any.{Any}
use Rattle.der_small.specs.Bits.{PlainBits, BitsContent}
use Rattle.der_small.specs.BitString.{plain_bits_ref, plain_bits}
use Rattle.der_small.specs.OctetString.{octets_ref, octets}
use Rattle.der_small.specs.declared.bit_string.BitStringRef.{BitStringRef}
use Rattle.der_small.specs.declared.bit_string.BitString.{BitString}
use Rattle.der_small.specs.declared.octet_string.OctetStringRef.{OctetStringRef}
use Rattle.der_small.specs.declared.octet_string.OctetString.{OctetString}
use Rattle.spki.specs.PlainAlgorithm.{PlainAlgorithm, ReadsAlgorithm, algorithm_der, plain_algorithm}
use Rattle.pkcs8.specs.Attributes.{attributes_bytes_ref, attributes_bytes}
use Rattle.pkcs8.specs.PrivateKey.{KeyParts, PartReads, PartTexts, PrivateKeyFields, fields_written, map_parts}
use Rattle.pkcs8.specs.PrivateKeyInfo.{parts_of}
use Rattle.pkcs8.specs.declared.attributes.Attributes.{Attributes}
use Rattle.pkcs8.specs.declared.attributes.AttributesRef.{AttributesRef}
use Rattle.pkcs8.specs.declared.private_key_info.PrivateKeyInfo.{PrivateKeyInfo}

-- Its algorithm, the octets of the private key, the content of its attributes, and its public key.
abbrev pub PlainPrivateKey : Type 0
PlainPrivateKey = KeyParts PlainAlgorithm (List ℕ) PlainBits (List ℕ)

abbrev pub bits_content : PlainBits → List ℕ
bits_content v = v.unused_bits ∷ v.octets

abbrev pub plain_texts : PartTexts PlainAlgorithm (List ℕ) PlainBits (List ℕ)
plain_texts = record {
  algorithm = algorithm_der;
  private_key = λ octets. encode octet_string_tag octets;
  attributes = λ content. content;
  public_key =
      bits_content;
}

-- What is written of it.
abbrev pub private_key_der : PlainPrivateKey → List ℕ
private_key_der v = encode sequence_tag (fields_written plain_texts v)

-- The bytes are the octet string of these octets.
abbrev pub ReadsOctets : List ℕ → List ℕ → Type 0
ReadsOctets = ReadsTagged octet_string_tag (λ content octets. octets ≡ content)

abbrev pub plain_reads : PartReads PlainAlgorithm (List ℕ) PlainBits (List ℕ)
plain_reads = record {
  algorithm = ReadsAlgorithm;
  private_key = ReadsOctets;
  attributes = λ content attributes. attributes ≡ content;
  public_key =
      BitsContent;
}

abbrev pub PlainKeyContent : List ℕ → PlainPrivateKey → Type 0
PlainKeyContent = PrivateKeyFields plain_reads

-- The bytes are a document of it, which may hold extensions beside it.
abbrev pub ReadsPrivateKey : List ℕ → PlainPrivateKey → Type 0
ReadsPrivateKey = ReadsTagged sequence_tag PlainKeyContent

abbrev pub plain_private_key_ref : PrivateKeyInfo AnyRef OctetStringRef BitStringRef AttributesRef → PlainPrivateKey
plain_private_key_ref v = map_parts (plain_algorithm plain_ref) octets_ref plain_bits_ref attributes_bytes_ref (parts_of v)

abbrev pub plain_private_key : PrivateKeyInfo Any OctetString BitString Attributes → PlainPrivateKey
plain_private_key v = map_parts (plain_algorithm plain_any) octets plain_bits attributes_bytes (parts_of v)
