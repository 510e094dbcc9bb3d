-- The owned forms read what the borrowed ones read.
use Rattle.std.proofs.Common.{◌≡◌, ℕ, ◌<◌, ◌^◌, List, ◌∷◌, ◌++◌, length, Option, Some, None, option_map, IfSome, refl, sym, ap, subst, ◌∙◌}
use Rattle.der_core.specs.Any.{PlainAny, plain_ref, der_of}
use Rattle.der_core.specs.Decode.{ReadsTagged, ReadsAny}
use Rattle.der_core.specs.Der.{IsTag, encode}
use Rattle.der_core.specs.Laws.{any_reads_encoding, any_encoding_reads, tagged_reads_encoding, tagged_encoding_reads, content_fits}
use Rattle.der_core.specs.SequenceLaws.{front_fits, rest_fits}
use Rattle.der_core.specs.ObjectIdentifier.{oid_content}
use Rattle.der_core.specs.declared.any.AnyRef.{AnyRef}
use Rattle.der_core.proofs.Owned.{SameReads}
use Rattle.der_small.specs.Bits.{PlainBits, AreBits}
use Rattle.der_small.specs.BitString.{plain_bits_ref}
use Rattle.der_small.specs.declared.bit_string.BitStringRef.{BitStringRef}
use Rattle.spki.specs.declared.algorithm.AlgorithmIdentifier.{AlgorithmIdentifier}
use Rattle.spki.specs.declared.spki.SubjectPublicKeyInfo.{SubjectPublicKeyInfo}
use Rattle.spki.specs.Algorithm.{AlgorithmContent, optional_bytes, algorithm_content}
use Rattle.spki.specs.AlgorithmLaws.{algorithm_reads_content, algorithm_content_reads}
use Rattle.spki.specs.PlainAlgorithm.{PlainAlgorithm, IsAlgorithm, ReadsAlgorithm, algorithm_der, plain_algorithm}
use Rattle.spki.specs.PlainPublicKey.{PlainPublicKey, IsPublicKey, ReadsPublicKey, public_key_der, plain_public_key_ref}
use Rattle.spki.specs.PublicKey.{PublicKeyContent, public_key_content}
use Rattle.spki.specs.PublicKeyLaws.{public_key_reads_content, public_key_content_reads}
use Rattle.spki.specs.Written.{ReadsDer}
use Rattle.spki.proofs.Oids.{oid_of, oid_of_content}
use Rattle.der_core.specs.Readings.{AreReadBack, AreWritten}

-- A borrowed value for each plain one, where its bytes can be borrowed.
pub record Borrows {V P : Type 0} (plain : V → P) (der : P → List ℕ) (IsLawful : P → Type 0) : Type 0 where
  pub of : (p : P) → IsLawful p → length (der p) < 2 ^ 32 → V
  pub is : (p : P) (lawful : IsLawful p) (fits : length (der p) < 2 ^ 32) → plain (of p lawful fits) ≡ p

pub same_written : {V P : Type 0} (Reads : List ℕ → V → Type 0) (encoding : V → List ℕ) (plain : V → P) (der : P → List ℕ) (IsLawful : P → Type 0)
    → AreWritten Reads encoding → ((b : List ℕ) (v : V) → Reads b v → length b < 2 ^ 32) → AreReadBack Reads encoding
    → ((v : V) → encoding v ≡ der (plain v)) → ((v : V) → IsLawful (plain v)) → Borrows plain der IsLawful → SameReads Reads (ReadsDer der IsLawful)
same_written {V = V} {P = P} Reads encoding plain der IsLawful written short read seen lawful borrow =
    let fits_of : (b : List ℕ) (p : P) → ReadsDer der IsLawful b p → length (der p) < 2 ^ 32 = λ b p r. rw (← r.is) r.fits in
    record {
      plain = plain;
      plain_reads = λ b v r. record { is = written b v r ∙ seen v; fits = short b v r; lawful = lawful v };
      borrowed = λ b p r. borrow.of p r.lawful (fits_of b p r);
      borrowed_reads = λ b p r.
          let v : V = borrow.of p r.lawful (fits_of b p r) in
          let is : encoding v ≡ b = seen v ∙ ap der (borrow.is p r.lawful (fits_of b p r)) ∙ sym r.is in
          subst (λ (x : List ℕ). Reads x v) is (read v (rw is r.fits));
    }

-- Parameters that may be absent.
optional_map : (o : Option AnyRef) → optional_bytes (λ (v : AnyRef). encode v.tag.byte v.value.now) o ≡ optional_bytes der_of (option_map plain_ref o)
optional_map None = refl
optional_map (Some v) = refl

optional_lawful : (o : Option AnyRef) → IfSome (option_map plain_ref o) (λ p. IsTag p.tag)
optional_lawful None = tt
optional_lawful (Some v) = v.tag.valid

abbrev pub BorrowsAny : Type 0
BorrowsAny = Borrows plain_ref der_of (λ p. IsTag p.tag)

optional_of : BorrowsAny → (o : Option PlainAny) → IfSome o (λ p. IsTag p.tag) → length (optional_bytes der_of o) < 2 ^ 32 → Option AnyRef
optional_of any None lawful fits = None
optional_of any (Some p) lawful fits = Some (any.of p lawful fits)

optional_is : (any : BorrowsAny) (o : Option PlainAny) (lawful : IfSome o (λ p. IsTag p.tag)) (fits : length (optional_bytes der_of o) < 2 ^ 32)
    → option_map plain_ref (optional_of any o lawful fits) ≡ o
unfolding optional_of
optional_is any None lawful fits = refl
optional_is any (Some p) lawful fits = ap (λ (q : PlainAny). Some q) (any.is p lawful fits)

parameters_fit : (p : PlainAlgorithm) → length (algorithm_der p) < 2 ^ 32 → length (optional_bytes der_of p.parameters) < 2 ^ 32
parameters_fit p fits = rest_fits (encode 6 p.oid) (optional_bytes der_of p.parameters)
    (content_fits 48 (encode 6 p.oid ++ optional_bytes der_of p.parameters) fits)

algorithm_of : BorrowsAny → (p : PlainAlgorithm) → IsAlgorithm p → length (algorithm_der p) < 2 ^ 32 → AlgorithmIdentifier AnyRef
algorithm_of any p lawful fits = record {
  oid = oid_of p.oid lawful.oid;
  parameters = optional_of any p.parameters lawful.parameters (parameters_fit p fits);
}

algorithm_is : (any : BorrowsAny) (p : PlainAlgorithm) (lawful : IsAlgorithm p) (fits : length (algorithm_der p) < 2 ^ 32)
    → plain_algorithm plain_ref (algorithm_of any p lawful fits) ≡ p
unfolding algorithm_of
algorithm_is any p lawful fits =
    let with_oid : List ℕ → PlainAlgorithm = λ o. record {
      oid = o;
      parameters =
          option_map plain_ref (optional_of any p.parameters lawful.parameters (parameters_fit p fits));
    } in
    let with_parameters : Option PlainAny → PlainAlgorithm = λ o. record { oid = p.oid; parameters = o } in
    ap with_oid (oid_of_content p.oid lawful.oid) ∙ ap with_parameters (optional_is any p.parameters lawful.parameters (parameters_fit p fits))

pub borrows_algorithm : BorrowsAny → Borrows (plain_algorithm plain_ref) algorithm_der IsAlgorithm
borrows_algorithm any = record { of = algorithm_of any; is = algorithm_is any }

abbrev pub ReadsAlgorithmRef : List ℕ → AlgorithmIdentifier AnyRef → Type 0
ReadsAlgorithmRef = ReadsTagged 48 (AlgorithmContent (λ b (v : AnyRef). ReadsAny b v.tag.byte v.value.now))

abbrev pub algorithm_ref_encoding : AlgorithmIdentifier AnyRef → List ℕ
algorithm_ref_encoding v = encode 48 (algorithm_content (λ (v : AnyRef). encode v.tag.byte v.value.now) v)

pub algorithm_written : (b : List ℕ) (v : AlgorithmIdentifier AnyRef) → ReadsAlgorithmRef b v → b ≡ algorithm_ref_encoding v
algorithm_written = tagged_reads_encoding 48 _ _ (algorithm_reads_content _ _ (λ b v r. any_reads_encoding b v.tag.byte v.value.now r))

pub algorithm_read : (v : AlgorithmIdentifier AnyRef) → length (algorithm_ref_encoding v) < 2 ^ 32 → ReadsAlgorithmRef (algorithm_ref_encoding v) v
algorithm_read = tagged_encoding_reads 48 _ _ (algorithm_content_reads _ _ (λ v fits. any_encoding_reads v.tag.byte v.value.now fits))

pub algorithm_seen : (v : AlgorithmIdentifier AnyRef) → algorithm_ref_encoding v ≡ algorithm_der (plain_algorithm plain_ref v)
algorithm_seen v = ap (λ (x : List ℕ). encode 48 (encode 6 (oid_content v.oid) ++ x)) (optional_map v.parameters)

pub algorithm_lawful : (v : AlgorithmIdentifier AnyRef) → IsAlgorithm (plain_algorithm plain_ref v)
algorithm_lawful v = record { oid = v.oid.holds.content; parameters = optional_lawful v.parameters }

pub algorithm_plain : (b : List ℕ) (v : AlgorithmIdentifier AnyRef) → ReadsAlgorithmRef b v → ReadsAlgorithm b (plain_algorithm plain_ref v)
algorithm_plain b v r = record { is = algorithm_written b v r ∙ algorithm_seen v; fits = r.fits; lawful = algorithm_lawful v }

pub same_algorithms : BorrowsAny → SameReads ReadsAlgorithmRef ReadsAlgorithm
same_algorithms any =
    same_written ReadsAlgorithmRef algorithm_ref_encoding (plain_algorithm plain_ref) algorithm_der IsAlgorithm algorithm_written (λ b v r. r.fits)
    algorithm_read algorithm_seen algorithm_lawful (borrows_algorithm any)

-- Public keys.
abbrev pub BorrowsBits : Type 0
BorrowsBits = (p : PlainBits) → AreBits p.unused_bits p.octets → (v : BitStringRef) × (plain_bits_ref v ≡ p)

abbrev pub ReadsPublicKeyRef : List ℕ → SubjectPublicKeyInfo AnyRef BitStringRef → Type 0
ReadsPublicKeyRef = ReadsTagged 48 (PublicKeyContent (λ b (v : AnyRef). ReadsAny b v.tag.byte v.value.now)
    (ReadsTagged 3 (λ b (v : BitStringRef). b ≡ v.unused_bits ∷ v.raw.now)))

abbrev pub public_key_encoding : SubjectPublicKeyInfo AnyRef BitStringRef → List ℕ
public_key_encoding v = encode 48 (public_key_content (λ (v : AnyRef). encode v.tag.byte v.value.now)
    (λ (v : BitStringRef). encode 3 (v.unused_bits ∷ v.raw.now)) v)

pub public_key_written : (b : List ℕ) (v : SubjectPublicKeyInfo AnyRef BitStringRef) → ReadsPublicKeyRef b v → b ≡ public_key_encoding v
public_key_written =
    tagged_reads_encoding 48 _ _ (public_key_reads_content _ _ _ _ (λ b v r. any_reads_encoding b v.tag.byte v.value.now r)
    (tagged_reads_encoding 3 _ _ (λ b v h. h)))

pub public_key_read : (v : SubjectPublicKeyInfo AnyRef BitStringRef) → length (public_key_encoding v) < 2 ^ 32 → ReadsPublicKeyRef (public_key_encoding v) v
public_key_read =
    tagged_encoding_reads 48 _ _ (public_key_content_reads _ _ _ _ (λ v fits. any_encoding_reads v.tag.byte v.value.now fits)
    (tagged_encoding_reads 3 _ _ (λ v fits. refl)))

pub public_key_seen : (v : SubjectPublicKeyInfo AnyRef BitStringRef) → public_key_encoding v ≡ public_key_der (plain_public_key_ref v)
public_key_seen v = ap (λ (x : List ℕ). encode 48 (x ++ encode 3 (v.subject_public_key.unused_bits ∷ v.subject_public_key.raw.now)))
    (algorithm_seen v.algorithm)

pub public_key_lawful : (v : SubjectPublicKeyInfo AnyRef BitStringRef) → IsPublicKey (plain_public_key_ref v)
public_key_lawful v = record { algorithm = algorithm_lawful v.algorithm; key = v.subject_public_key.are_bits }

public_key_fits : (p : PlainPublicKey) → length (public_key_der p) < 2 ^ 32 → length (algorithm_der p.algorithm) < 2 ^ 32
public_key_fits p fits =
    let key : List ℕ = encode 3 (p.key.unused_bits ∷ p.key.octets) in
    front_fits (algorithm_der p.algorithm) key (content_fits 48 (algorithm_der p.algorithm ++ key) fits)

public_key_of : BorrowsAny → BorrowsBits → (p : PlainPublicKey) → IsPublicKey p → length (public_key_der p) < 2 ^ 32 → SubjectPublicKeyInfo AnyRef BitStringRef
public_key_of any bits p lawful fits = record {
  algorithm = algorithm_of any p.algorithm lawful.algorithm (public_key_fits p fits);
  subject_public_key = (bits p.key lawful.key).0;
}

public_key_is : (any : BorrowsAny) (bits : BorrowsBits) (p : PlainPublicKey) (lawful : IsPublicKey p) (fits : length (public_key_der p) < 2 ^ 32)
    → plain_public_key_ref (public_key_of any bits p lawful fits) ≡ p
unfolding public_key_of
public_key_is any bits p lawful fits =
    let key : PlainBits = plain_bits_ref (bits p.key lawful.key).0 in
    let with_algorithm : PlainAlgorithm → PlainPublicKey = λ a. record { algorithm = a; key = key } in
    let with_key : PlainBits → PlainPublicKey = λ k. record { algorithm = p.algorithm; key = k } in
    ap with_algorithm (algorithm_is any p.algorithm lawful.algorithm (public_key_fits p fits)) ∙ ap with_key (bits p.key lawful.key).1

pub same_public_keys : BorrowsAny → BorrowsBits → SameReads ReadsPublicKeyRef ReadsPublicKey
same_public_keys any bits =
    same_written ReadsPublicKeyRef public_key_encoding plain_public_key_ref public_key_der IsPublicKey public_key_written (λ b v r. r.fits) public_key_read
    public_key_seen public_key_lawful
    (record { of = public_key_of any bits; is = public_key_is any bits })
