-- Algorithm identifiers (RFC 5280, 4.1.1.2): SEQUENCE { algorithm OBJECT IDENTIFIER, parameters OPTIONAL }.
use Rattle.std.specs.Prelude.{◌≡◌, ℕ, List, [], ◌++◌, Option, Some, None}
use Rattle.der_core.specs.Decode.{ReadsTagged}
use Rattle.der_core.specs.Der.{encode}
use Rattle.der_core.specs.Sequence.{Then}
use Rattle.der_core.specs.ObjectIdentifier.{oid_content}
use Rattle.der_core.specs.Tags.{oid_tag, sequence_tag}
use Rattle.der_core.specs.declared.oid.ObjectIdentifier.{ObjectIdentifier}
use Rattle.spki.specs.declared.algorithm.AlgorithmIdentifier.{AlgorithmIdentifier}

-- The bytes are an encoding of an object identifier.
abbrev pub ReadsOid : List ℕ → ObjectIdentifier → Type 0
ReadsOid = ReadsTagged oid_tag (λ b v. oid_content v ≡ b)

-- The bytes are the parameters, or there are none.
abbrev pub AreParameters : {P : Type 0} → (List ℕ → P → Type 0) → Option P → List ℕ → Type 0
AreParameters Reads None = λ bytes. bytes ≡ []
AreParameters Reads (Some p) = λ bytes. Reads bytes p

-- The fields of the sequence, over what its parameters read as.
abbrev pub AlgorithmContent : {P : Type 0} → (List ℕ → P → Type 0) → List ℕ → AlgorithmIdentifier P → Type 0
AlgorithmContent Reads bytes v = Then ReadsOid (AreParameters Reads v.parameters) bytes v.oid

-- What is written of a field that may be absent.
abbrev pub optional_bytes : {P : Type 0} → (P → List ℕ) → Option P → List ℕ
optional_bytes encoding None = []
optional_bytes encoding (Some p) = encoding p

-- What is written of the fields, over what is written of the parameters.
abbrev pub algorithm_content : {P : Type 0} → (P → List ℕ) → AlgorithmIdentifier P → List ℕ
algorithm_content encoding v = encode oid_tag (oid_content v.oid) ++ optional_bytes encoding v.parameters

-- What reads as an algorithm identifier, over what its parameters read as.
abbrev pub ReadsAlgorithmIdentifier : {P : Type 0} → (List ℕ → P → Type 0) → List ℕ → AlgorithmIdentifier P → Type 0
ReadsAlgorithmIdentifier Reads = ReadsTagged sequence_tag (AlgorithmContent Reads)

-- What is written of the whole, over what is written of the parameters.
abbrev pub algorithm_encoding : {P : Type 0} → (P → List ℕ) → AlgorithmIdentifier P → List ℕ
algorithm_encoding encoding v = encode sequence_tag (algorithm_content encoding v)
