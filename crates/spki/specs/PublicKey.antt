-- Public keys (RFC 5280, 4.1.2.7): SEQUENCE { algorithm AlgorithmIdentifier, subjectPublicKey BIT STRING }.
use Rattle.std.specs.Prelude.{ℕ, List, ◌++◌}
use Rattle.der_core.specs.Der.{encode}
use Rattle.der_core.specs.Sequence.{TwoFields}
use Rattle.der_core.specs.Tags.{sequence_tag}
use Rattle.spki.specs.declared.spki.SubjectPublicKeyInfo.{SubjectPublicKeyInfo}
use Rattle.spki.specs.Algorithm.{ReadsAlgorithmIdentifier, algorithm_encoding}

-- The fields of the sequence, over what the parameters and the key read as.
abbrev pub PublicKeyContent : {P K : Type 0} → (List ℕ → P → Type 0) → (List ℕ → K → Type 0) → List ℕ → SubjectPublicKeyInfo P K → Type 0
PublicKeyContent ReadsP ReadsK bytes v = TwoFields (ReadsAlgorithmIdentifier ReadsP) ReadsK bytes v.algorithm v.subject_public_key

-- What is written of the fields.
abbrev pub public_key_content : {P K : Type 0} → (P → List ℕ) → (K → List ℕ) → SubjectPublicKeyInfo P K → List ℕ
public_key_content parameters key v = algorithm_encoding parameters v.algorithm ++ key v.subject_public_key

-- What is written of the whole.
abbrev pub public_key_encoding : {P K : Type 0} → (P → List ℕ) → (K → List ℕ) → SubjectPublicKeyInfo P K → List ℕ
public_key_encoding parameters key v = encode sequence_tag (public_key_content parameters key v)
