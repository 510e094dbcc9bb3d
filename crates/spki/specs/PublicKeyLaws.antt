-- What is read of a public key is what is written.
use Rattle.std.proofs.Common.{◌≡◌, ℕ, ◌<◌, ◌^◌, List, length}
use Rattle.der_core.specs.Laws.{tagged_reads_encoding, tagged_encoding_reads}
use Rattle.der_core.specs.SequenceLaws.{two_read, two_written}
use Rattle.der_core.specs.Tags.{sequence_tag}
use Rattle.spki.specs.declared.spki.SubjectPublicKeyInfo.{SubjectPublicKeyInfo}
use Rattle.spki.specs.Algorithm.{AlgorithmContent, ReadsAlgorithmIdentifier, algorithm_content, algorithm_encoding}
use Rattle.spki.specs.AlgorithmLaws.{algorithm_reads_content, algorithm_content_reads}
use Rattle.spki.specs.PublicKey.{PublicKeyContent, public_key_content}
use Rattle.der_core.specs.Readings.{AreReadBack, AreWritten}

pub public_key_reads_content :
    {P K : Type 0} (ReadsP : List ℕ → P → Type 0) (ReadsK : List ℕ → K → Type 0) (parameters : P → List ℕ) (key : K → List ℕ) →
    AreWritten ReadsP parameters → AreWritten ReadsK key → (b : List ℕ) (v : SubjectPublicKeyInfo P K) →
    PublicKeyContent ReadsP ReadsK b v → b ≡ public_key_content parameters key v
public_key_reads_content ReadsP ReadsK parameters key lawP lawK b v c =
    two_written (ReadsAlgorithmIdentifier ReadsP) ReadsK (algorithm_encoding parameters) key
    (tagged_reads_encoding sequence_tag (AlgorithmContent ReadsP) (algorithm_content parameters) (algorithm_reads_content ReadsP parameters lawP))
    lawK b v.algorithm v.subject_public_key c

pub public_key_content_reads :
    {P K : Type 0} (ReadsP : List ℕ → P → Type 0) (ReadsK : List ℕ → K → Type 0) (parameters : P → List ℕ) (key : K → List ℕ) →
    AreReadBack ReadsP parameters → AreReadBack ReadsK key → (v : SubjectPublicKeyInfo P K) →
    length (public_key_content parameters key v) < 2 ^ 32 →
    PublicKeyContent ReadsP ReadsK (public_key_content parameters key v) v
public_key_content_reads ReadsP ReadsK parameters key lawP lawK v fits =
    two_read (ReadsAlgorithmIdentifier ReadsP) ReadsK (algorithm_encoding parameters) key
    (tagged_encoding_reads sequence_tag (AlgorithmContent ReadsP) (algorithm_content parameters) (algorithm_content_reads ReadsP parameters lawP))
    lawK v.algorithm v.subject_public_key fits
