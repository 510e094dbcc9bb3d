-- Where the fields of a sequence cannot be read, it stands for no value.
use Rattle.std.proofs.Common.{◌≡◌, ℕ, List, [], Option, Some, None, sym}
use Rattle.std.proofs.lemmas.List.{append-nil}
use Rattle.der_core.specs.Der.{IsValue}
use Rattle.der_core.specs.Decode.{Front, NoFront, ReadsTagged-one_value}
use Rattle.der_core.specs.Tags.{tag_6, tag_48}
use Rattle.der_core.specs.declared.oid.ObjectIdentifier.{ObjectIdentifier}
use Rattle.der_core.specs.SequenceLaws.{more_than_two, no_second_of_two, one_front, then_none, then_same}
use Rattle.der_core.specs.Sequence.{Last}
use Rattle.spki.specs.declared.algorithm.AlgorithmIdentifier.{AlgorithmIdentifier}
use Rattle.spki.specs.declared.spki.SubjectPublicKeyInfo.{SubjectPublicKeyInfo}
use Rattle.spki.specs.Algorithm.{ReadsOid, AreParameters, AlgorithmContent, ReadsAlgorithmIdentifier}
use Rattle.spki.specs.PublicKey.{PublicKeyContent}
use Rattle.der_core.specs.Readings.{AreValues}

oid_value : (b : List ℕ) (o : ObjectIdentifier) → ReadsOid b o → IsValue b
oid_value b o r = ReadsTagged-one_value 6 _ b o tag_6 r

pub no_oid : {P : Type 0} (Reads : List ℕ → P → Type 0) (s : List ℕ) → NoFront ReadsOid s → (v : AlgorithmIdentifier P) → AlgorithmContent Reads s v → ⊥
no_oid Reads s none v c = then_none ReadsOid (AreParameters Reads v.parameters) s v.oid none c

absent : {P : Type 0} (Reads : List ℕ → P → Type 0) (rest : List ℕ) (p : Option P) → (rest ≡ [] → ⊥) → NoFront Reads rest → AreParameters Reads p rest → ⊥
absent Reads rest None some none a = some a
absent Reads rest (Some p) some none a = none rest [] p a (sym (append-nil rest))

pub no_parameters : {P : Type 0} (Reads : List ℕ → P → Type 0) (s rest : List ℕ) (o : ObjectIdentifier) → Front ReadsOid s rest o → (rest ≡ [] → ⊥)
    → NoFront Reads rest → (v : AlgorithmIdentifier P) → AlgorithmContent Reads s v → ⊥
no_parameters Reads s rest o f some none v c =
    absent Reads rest v.parameters some none (then_same ReadsOid (AreParameters Reads v.parameters) s rest o v.oid oid_value f c).next

left_over : {P : Type 0} (Reads : List ℕ → P → Type 0) (s rest : List ℕ) (p : P) (q : Option P) → AreValues Reads → Front Reads s rest p → (s ≡ [] → ⊥)
    → (rest ≡ [] → ⊥) → AreParameters Reads q s → ⊥
left_over Reads s rest p None law f first some a = first a
left_over Reads s rest p (Some q) law f first some a = some (one_front Reads s rest p q law f a)

pub more_follows : {P : Type 0} (Reads : List ℕ → P → Type 0) (s rest end : List ℕ) (o : ObjectIdentifier) (p : P) → AreValues Reads
    → Front ReadsOid s rest o → Front Reads rest end p → (rest ≡ [] → ⊥) → (end ≡ [] → ⊥) → (v : AlgorithmIdentifier P) → AlgorithmContent Reads s v → ⊥
more_follows Reads s rest end o p law f f' first some v c =
    left_over Reads rest end p v.parameters law f' first some (then_same ReadsOid (AreParameters Reads v.parameters) s rest o v.oid oid_value f c).next

algorithm_value : {P : Type 0} (Reads : List ℕ → P → Type 0) (b : List ℕ) (v : AlgorithmIdentifier P) → ReadsAlgorithmIdentifier Reads b v → IsValue b
algorithm_value Reads b v r = ReadsTagged-one_value 48 _ b v tag_48 r

pub no_algorithm : {P K : Type 0} (ReadsP : List ℕ → P → Type 0) (ReadsK : List ℕ → K → Type 0) (s : List ℕ) → NoFront (ReadsAlgorithmIdentifier ReadsP) s
    → (v : SubjectPublicKeyInfo P K) → PublicKeyContent ReadsP ReadsK s v → ⊥
no_algorithm ReadsP ReadsK s none v c = then_none (ReadsAlgorithmIdentifier ReadsP) (Last ReadsK v.subject_public_key) s v.algorithm none c

pub no_key : {P K : Type 0} (ReadsP : List ℕ → P → Type 0) (ReadsK : List ℕ → K → Type 0) (s rest : List ℕ) (a : AlgorithmIdentifier P)
    → Front (ReadsAlgorithmIdentifier ReadsP) s rest a → NoFront ReadsK rest → (v : SubjectPublicKeyInfo P K) → PublicKeyContent ReadsP ReadsK s v → ⊥
no_key ReadsP ReadsK s rest a f none v c = no_second_of_two (ReadsAlgorithmIdentifier ReadsP) ReadsK (algorithm_value ReadsP) s rest a f none v.algorithm
    v.subject_public_key c

pub more_than_key : {P K : Type 0} (ReadsP : List ℕ → P → Type 0) (ReadsK : List ℕ → K → Type 0) (s rest end : List ℕ) (a : AlgorithmIdentifier P) (k : K)
    → AreValues ReadsK → Front (ReadsAlgorithmIdentifier ReadsP) s rest a → Front ReadsK rest end k → (end ≡ [] → ⊥) → (v : SubjectPublicKeyInfo P K)
    → PublicKeyContent ReadsP ReadsK s v → ⊥
more_than_key ReadsP ReadsK s rest end a k law f f' some v c =
    more_than_two (ReadsAlgorithmIdentifier ReadsP) ReadsK (algorithm_value ReadsP) law s rest end a k f f' some v.algorithm v.subject_public_key c
