-- An algorithm identifier as plain data, without where its bytes lie.
use Rattle.std.specs.Prelude.{ℕ, List, ◌++◌, Option, option_map, IfSome}
use Rattle.der_core.specs.Any.{PlainAny, der_of}
use Rattle.der_core.specs.Der.{IsTag, encode}
use Rattle.der_core.specs.Oid.{IsOidContent}
use Rattle.der_core.specs.ObjectIdentifier.{oid_content}
use Rattle.der_core.specs.Tags.{oid_tag, sequence_tag}
use Rattle.spki.specs.declared.algorithm.AlgorithmIdentifier.{AlgorithmIdentifier}
use Rattle.spki.specs.Algorithm.{optional_bytes}
use Rattle.spki.specs.Written.{ReadsDer}

pub record PlainAlgorithm : Type 0 where
  pub oid : List ℕ
  pub parameters : Option PlainAny

-- The identifier is one of an algorithm, and its parameters have a tag of the profile.
pub record IsAlgorithm (v : PlainAlgorithm) : Type 0 where
  pub oid : IsOidContent v.oid
  pub parameters : IfSome v.parameters (λ p. IsTag p.tag)

-- Its encoding (RFC 5280, 4.1.1.2).
abbrev pub algorithm_der : PlainAlgorithm → List ℕ
algorithm_der v = encode sequence_tag (encode oid_tag v.oid ++ optional_bytes der_of v.parameters)

-- The bytes are its encoding.
abbrev pub ReadsAlgorithm : List ℕ → PlainAlgorithm → Type 0
ReadsAlgorithm = ReadsDer algorithm_der IsAlgorithm

-- What is seen of an identifier, over what its parameters are seen as.
abbrev pub plain_algorithm : {P : Type 0} → (P → PlainAny) → AlgorithmIdentifier P → PlainAlgorithm
plain_algorithm plain v = record { oid = oid_content v.oid; parameters = option_map plain v.parameters }
