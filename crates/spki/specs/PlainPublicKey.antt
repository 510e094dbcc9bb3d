-- A public key as plain data, without where its bytes lie.
use Rattle.std.specs.Prelude.{ℕ, List, ◌∷◌, ◌++◌}
use Rattle.der_core.specs.Any.{plain_ref, plain_any}
use Rattle.der_core.specs.Der.{encode}
use Rattle.der_core.specs.Tags.{bit_string_tag, sequence_tag}
use Rattle.der_small.specs.Bits.{PlainBits, AreBits}
use Rattle.der_small.specs.BitString.{plain_bits_ref, plain_bits}
use Rattle.der_small.specs.declared.bit_string.BitStringRef.{BitStringRef}
use Rattle.der_small.specs.declared.bit_string.BitString.{BitString}
use Rattle.der_core.specs.declared.any.AnyRef.{AnyRef}
use Rattle.der_core.specs.declared.any.Any.{Any}
use Rattle.spki.specs.declared.spki.SubjectPublicKeyInfo.{SubjectPublicKeyInfo}
use Rattle.spki.specs.PlainAlgorithm.{PlainAlgorithm, IsAlgorithm, algorithm_der, plain_algorithm}
use Rattle.spki.specs.Written.{ReadsDer}

pub record PlainPublicKey : Type 0 where
  pub algorithm : PlainAlgorithm
  pub key : PlainBits

-- Its parts are those of an algorithm and of a bit string.
pub record IsPublicKey (v : PlainPublicKey) : Type 0 where
  pub algorithm : IsAlgorithm v.algorithm
  pub key : AreBits v.key.unused_bits v.key.octets

-- Its encoding (RFC 5280, 4.1.2.7).
abbrev pub public_key_der : PlainPublicKey → List ℕ
public_key_der v = encode sequence_tag (algorithm_der v.algorithm ++ encode bit_string_tag (v.key.unused_bits ∷ v.key.octets))

-- The bytes are its encoding.
abbrev pub ReadsPublicKey : List ℕ → PlainPublicKey → Type 0
ReadsPublicKey = ReadsDer public_key_der IsPublicKey

abbrev pub plain_public_key_ref : SubjectPublicKeyInfo AnyRef BitStringRef → PlainPublicKey
plain_public_key_ref v = record { algorithm = plain_algorithm plain_ref v.algorithm; key = plain_bits_ref v.subject_public_key }

abbrev pub plain_public_key : SubjectPublicKeyInfo Any BitString → PlainPublicKey
plain_public_key v = record { algorithm = plain_algorithm plain_any v.algorithm; key = plain_bits v.subject_public_key }
