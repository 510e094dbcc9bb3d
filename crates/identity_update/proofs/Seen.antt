-- What is written of borrowed keys, as plain data.
use Rattle.std.proofs.Common.{◌≡◌, ℕ, ◌∷◌, List, [], ◌++◌, Option, Some, None, option_map, refl, ap, ◌∙◌}
use Rattle.der_core.specs.Der.{encode}
use Rattle.der_core.specs.declared.any.AnyRef.{AnyRef}
use Rattle.der_small.specs.BitString.{plain_bits_ref}
use Rattle.der_small.specs.declared.bit_string.BitStringRef.{BitStringRef}
use Rattle.der_small.specs.declared.octet_string.OctetStringRef.{OctetStringRef}
use Rattle.spki.specs.Algorithm.{algorithm_encoding}
use Rattle.spki.specs.PlainAlgorithm.{algorithm_der}
use Rattle.spki.specs.declared.algorithm.AlgorithmIdentifier.{AlgorithmIdentifier}
use Rattle.spki.proofs.Owned.{algorithm_seen}
use Rattle.pkcs8.specs.PlainPrivateKey.{bits_content, plain_private_key_ref, private_key_der}
use Rattle.pkcs8.specs.PrivateKey.{PartTexts, after_key_written}
use Rattle.pkcs8.specs.PrivateKeyInfo.{private_key_encoding}
use Rattle.pkcs8.specs.Version.{version_byte, version_of}
use Rattle.pkcs8.specs.Attributes.{attributes_bytes_ref}
use Rattle.pkcs8.specs.declared.attributes.AttributesRef.{AttributesRef}
use Rattle.pkcs8.specs.declared.private_key_info.PrivateKeyInfo.{PrivateKeyInfo}

abbrev pub PrivateKeyRef : Type 0
PrivateKeyRef = PrivateKeyInfo AnyRef OctetStringRef BitStringRef AttributesRef

-- what is written of the parts of a borrowed private key
abbrev pub borrowed_texts : PartTexts (AlgorithmIdentifier AnyRef) OctetStringRef BitStringRef AttributesRef
borrowed_texts = record {
  algorithm = algorithm_encoding (λ v. encode v.tag.byte v.value.now);
  private_key = λ v. encode 4 v.bytes.now;
  attributes = λ v. v.content.now;
  public_key = λ v. bits_content (plain_bits_ref v);
}

same_tail : (t : Option AttributesRef) (k : Option BitStringRef)
    → after_key_written borrowed_texts.attributes borrowed_texts.public_key t k
    ≡ after_key_written (λ content. content) bits_content (option_map attributes_bytes_ref t) (option_map plain_bits_ref k)
same_tail None None = refl
same_tail None (Some k) = refl
same_tail (Some t) None = refl
same_tail (Some t) (Some k) = refl

same_version : (k : Option BitStringRef) → version_of k ≡ version_of (option_map plain_bits_ref k)
same_version None = refl
same_version (Some k) = refl

pub private_key_seen : (v : PrivateKeyRef) → private_key_encoding borrowed_texts v ≡ private_key_der (plain_private_key_ref v)
private_key_seen v =
    let key : List ℕ = encode 4 v.private_key.bytes.now in
    let tail : List ℕ = after_key_written borrowed_texts.attributes borrowed_texts.public_key v.attributes v.public_key in
    let version = same_version v.public_key in
    ap (λ n. encode 48 (encode 2 (version_byte n ∷ []) ++ algorithm_encoding (λ (a : AnyRef). encode a.tag.byte a.value.now) v.algorithm ++ key ++ tail))
    version
    ∙ ap (λ (x : List ℕ). encode 48 (encode 2 (version_byte (version_of (option_map plain_bits_ref v.public_key)) ∷ []) ++ x ++ key ++ tail))
    (algorithm_seen v.algorithm)
    ∙ ap (λ (x : List ℕ). encode 48 (encode 2 (version_byte (version_of (option_map plain_bits_ref v.public_key)) ∷ [])
    ++ algorithm_der (plain_private_key_ref v).algorithm ++ key ++ x)) (same_tail v.attributes v.public_key)
