-- One answer to each list of bytes, and one to each value.
use Rattle.std.proofs.Common.{◌≡◌, ℕ, zero, suc, ◌<◌, ◌^◌, nat_lt, List, [], ◌∷◌, ◌++◌, length, Bool, true, false, Option, Some, None, Result, Ok, Err, refl}
use Rattle.std.proofs.Common.{sym, ap, subst, ◌∙◌, if◌then◌else◌}
use Rattle.der_core.specs.Decode.{ReadsTagged, ReadsTagged-one_value}
use Rattle.der_core.specs.Der.{IsTag, IsValue, encode}
use Rattle.der_core.specs.Sequence.{Then}
use Rattle.der_core.specs.SequenceLaws.{ReadsOne, then_same}
use Rattle.der_core.specs.Tags.{integer_tag, octet_string_tag, sequence_tag, tag_129, tag_160, tag_2, tag_4, tag_48}
use Rattle.der_core.specs.ValueLaws.{same_value}
use Rattle.der_core.specs.declared.error.Error.{Error as DerError}
use Rattle.der_core.specs.declared.error.Error.TheVariants as der
use Rattle.der_small.specs.Bits.{PlainBits, BitsContent}
use Rattle.spki.specs.ReadLaws.{Outcome, read, malformed, trailing, algorithm_one, algorithm_value, same_outcome}
use Rattle.pkcs8.specs.Answers.{IsOfAFile, ReadAnswer, written_answer}
use Rattle.pkcs8.specs.Extensions.{IsExtensions}
use Rattle.pkcs8.specs.PlainPrivateKey.{PlainPrivateKey, PlainKeyContent, ReadsOctets, ReadsPrivateKey, plain_reads}
use Rattle.pkcs8.specs.PrivateKey.{KeyParts, PartReads, ReadsVersion, AfterAttributes, AfterKey, NoField, PrivateKeyFields, attributes_tag, public_key_tag}
use Rattle.pkcs8.specs.Version.{version_byte, version_of}
use Rattle.pkcs8.specs.declared.error.Error.{Error}
use Rattle.pkcs8.specs.declared.error.Error.TheVariants as error
use Rattle.pkcs8.specs.declared.version.Version.{Version}
use Rattle.pkcs8.specs.declared.version.Version.TheVariants.{V1, V2}
use Rattle.der_core.specs.Readings.{AreValues}

abbrev of_der : DerError → Error
of_der e = error.Asn1 e

outcome_of : {P : Type 0} (Reads : List ℕ → P → Type 0) (bytes : List ℕ) (r : Result P Error) → ReadAnswer Reads bytes r → Outcome of_der Reads bytes r
outcome_of Reads bytes (Ok v) h = read v refl h
outcome_of Reads bytes (Err (error.Asn1 der.Malformed)) h = malformed refl h
outcome_of Reads bytes (Err (error.Asn1 (der.TrailingData decoded remaining))) h = trailing decoded remaining refl h
outcome_of Reads bytes (Err _) h = absurd h

pub read_one_answer : {P : Type 0} (Reads : List ℕ → P → Type 0) → ReadsOne Reads →
    (bytes : List ℕ) (one other : Result P Error) → ReadAnswer Reads bytes one → ReadAnswer Reads bytes other →
    one ≡ other
read_one_answer Reads law bytes one other h k = same_outcome of_der Reads law bytes one other (outcome_of Reads bytes one h) (outcome_of Reads bytes other k)

pub read_no_file : {P : Type 0} (Reads : List ℕ → P → Type 0) (bytes : List ℕ) (e : Error) → ReadAnswer Reads bytes (Err e) → IsOfAFile e → ⊥
read_no_file Reads bytes (error.Asn1 der.FileMissing) h file = h
read_no_file Reads bytes (error.Asn1 der.FileFault) h file = h
read_no_file Reads bytes (error.Asn1 der.FileTooLong) h file = h
read_no_file Reads bytes (error.PublicKey e) h file = h
read_no_file Reads bytes _ h file = absurd file

abbrev RefusedByFile : Result (List ℕ) Error → Type 0
RefusedByFile (Ok bytes) = ⊥
RefusedByFile (Err e) = IsOfAFile e

written_no_file_at : (fits : Bool) (bytes : List ℕ) (e : Error) → (if fits then Ok bytes else Err (error.Asn1 der.Overlength)) ≡ Err e → IsOfAFile e → ⊥
written_no_file_at true bytes e is file = subst RefusedByFile (sym is) file
written_no_file_at false bytes e is file = subst RefusedByFile (sym is) file

pub written_no_file : (bytes : List ℕ) (e : Error) → written_answer bytes ≡ Err e → IsOfAFile e → ⊥
written_no_file bytes e is file = written_no_file_at (nat_lt (length bytes) (2 ^ 32)) bytes e is file

-- Two readings of the same first field, and what follows it.
pub record BothThen {V : Type 0} (Reads : List ℕ → V → Type 0) (Next Next' : List ℕ → Type 0) (v w : V) : Type 0 where
  pub front : List ℕ
  pub rest : List ℕ
  pub reads : Reads front v
  pub reads' : Reads front w
  pub next : Next rest
  pub next' : Next' rest

both_then : {V : Type 0} (Reads : List ℕ → V → Type 0) (Next Next' : List ℕ → Type 0) (s : List ℕ) (v w : V) →
    AreValues Reads → Then Reads Next s v → Then Reads Next' s w → BothThen Reads Next Next' v w
both_then Reads Next Next' s v w law t u =
    let same = then_same Reads Next' s t.rest v w law (record { front = t.front; reads = t.reads; is = t.is }) u in
    record { front = t.front; rest = t.rest; reads = t.reads; reads' = same.reads; next = t.next; next' = same.next }

-- Two readings of one tag are of the same content.
pub same_contents : {V : Type 0} (tag : ℕ) (H : List ℕ → V → Type 0) → IsTag tag →
    (b : List ℕ) (v w : V) (r : ReadsTagged tag H b v) (s : ReadsTagged tag H b w) → r.content ≡ s.content
same_contents tag H t b v w r s =
    let fit : length (encode tag r.content) < 2 ^ 32 = subst (λ (x : List ℕ). length x < 2 ^ 32) r.is r.fits in
    let fit' : length (encode tag s.content) < 2 ^ 32 = subst (λ (x : List ℕ). length x < 2 ^ 32) s.is s.fits in
    (same_value tag r.content [] tag s.content [] t fit t fit' (ap (λ (x : List ℕ). x ++ []) (sym r.is ∙ s.is))).contents

-- Values of one tag are as many as their contents.
tagged_one : {V : Type 0} (tag : ℕ) (H : List ℕ → V → Type 0) → IsTag tag →
    ((c : List ℕ) (v w : V) → H c v → H c w → v ≡ w) → (b : List ℕ) (v w : V) → ReadsTagged tag H b v →
    ReadsTagged tag H b w → v ≡ w
tagged_one tag H t one b v w r s = one s.content v w (subst (λ (x : List ℕ). H x v) (same_contents tag H t b v w r s) r.has) s.has

abbrev IsZero : ℕ → Type 0
IsZero zero = Unit {0}
IsZero (suc n) = ⊥

same_byte : (v w : Version) → version_byte v ≡ version_byte w → v ≡ w
same_byte V1 V1 e = refl
same_byte V1 V2 e = absurd (subst IsZero e tt)
same_byte V2 V1 e = absurd (subst IsZero (sym e) tt)
same_byte V2 V2 e = refl

abbrev first : List ℕ → ℕ
first [] = 0
first (x ∷ xs) = x

abbrev after_first : List ℕ → List ℕ
after_first [] = []
after_first (x ∷ xs) = xs

pub one_version : (b : List ℕ) (v w : Version) → ReadsVersion b v → ReadsVersion b w → v ≡ w
one_version = tagged_one integer_tag _ tag_2 (λ c v w h k. same_byte v w (ap first (sym h ∙ k)))

pub version_value : (b : List ℕ) (v : Version) → ReadsVersion b v → IsValue b
version_value b v r = ReadsTagged-one_value integer_tag _ b v tag_2 r

-- Where attributes stand at the front, it is not so that none do.
not_without : {T : Type 0} (H : List ℕ → T → Type 0) (Next : List ℕ → Type 0) (s : List ℕ) (v : T) →
    NoField attributes_tag s → Then (ReadsTagged attributes_tag H) Next s v → ⊥
not_without H Next s v none t =
    none t.reads.content t.rest (subst (λ (x : List ℕ). length x < 2 ^ 32) t.reads.is t.reads.fits) (t.is ∙ ap (λ (x : List ℕ). x ++ t.rest) t.reads.is)

abbrev IsV1 : Version → Type 0
IsV1 V1 = Unit {0}
IsV1 V2 = ⊥

-- The contents of a part that is one for each content.
abbrev pub ContentOne : {X : Type 0} → (List ℕ → X → Type 0) → Type 0
ContentOne {X = X} H = (c : List ℕ) (v w : X) → H c v → H c w → v ≡ w

one_public : {B : Type 0} (H : List ℕ → B → Type 0) → ContentOne H → (s : List ℕ) (k l : Option B) →
    version_of k ≡ version_of l → AfterAttributes H k s → AfterAttributes H l s → k ≡ l
one_public H one s None None e a b = refl
one_public H one s None (Some l) e a b = absurd (subst IsV1 e tt)
one_public H one s (Some k) None e a b = absurd (subst IsV1 (sym e) tt)
one_public {B = B} H one s (Some k) (Some l) e a b =
    let some : B → Option B = λ x. Some x in
    let both = both_then (ReadsTagged public_key_tag H) IsExtensions IsExtensions s k l (λ b v r. ReadsTagged-one_value public_key_tag H b v tag_129 r) a b in
    ap some (tagged_one public_key_tag H tag_129 one both.front k l both.reads both.reads')

one_tail : {B T : Type 0} (HT : List ℕ → T → Type 0) (HB : List ℕ → B → Type 0) → ContentOne HT → ContentOne HB →
    (s : List ℕ) (t u : Option T) (k l : Option B) → version_of k ≡ version_of l → AfterKey HT HB t k s →
    AfterKey HT HB u l s → (t ≡ u) × (k ≡ l)
one_tail HT HB oneT oneB s None None k l e a b = (refl, one_public HB oneB s k l e a.1 b.1)
one_tail HT HB oneT oneB s None (Some u) k l e a b = absurd (not_without HT (AfterAttributes HB l) s u a.0 b)
one_tail HT HB oneT oneB s (Some t) None k l e a b = absurd (not_without HT (AfterAttributes HB k) s t b.0 a)
one_tail {T = T} HT HB oneT oneB s (Some t) (Some u) k l e a b =
    let some : T → Option T = λ x. Some x in
    let both = both_then (ReadsTagged attributes_tag HT) (AfterAttributes HB k) (AfterAttributes HB l) s t u
    (λ b v r. ReadsTagged-one_value attributes_tag HT b v tag_160 r) a b in
    (ap some (tagged_one attributes_tag HT tag_160 oneT both.front t u both.reads both.reads'), one_public HB oneB both.rest k l e both.next both.next')

-- Each part is one for each encoding, or for each content.
pub record PartsOne {A K B T : Type 0} (reads : PartReads A K B T) : Type 0 where
  pub algorithm : ReadsOne reads.algorithm
  pub private_key : ReadsOne reads.private_key
  pub attributes : ContentOne reads.attributes
  pub public_key : ContentOne reads.public_key

-- Keys with the same parts are the same.
pub same_parts : {A K B T : Type 0} (v w : KeyParts A K B T) → v.algorithm ≡ w.algorithm →
    v.private_key ≡ w.private_key → v.attributes ≡ w.attributes → v.public_key ≡ w.public_key → v ≡ w
same_parts {A = A} {K = K} {B = B} {T = T} v w a k t b =
    let with_algorithm : A → KeyParts A K B T = λ x. record {
      algorithm = x;
      private_key = v.private_key;
      attributes = v.attributes;
      public_key =
          v.public_key;
    } in
    let with_key : K → KeyParts A K B T = λ x. record { algorithm = w.algorithm; private_key = x; attributes = v.attributes; public_key = v.public_key } in
    let with_attributes : Option T → KeyParts A K B T = λ x. record
    { algorithm = w.algorithm; private_key = w.private_key; attributes = x; public_key = v.public_key } in
    let with_public : Option B → KeyParts A K B T = λ x. record
    { algorithm = w.algorithm; private_key = w.private_key; attributes = w.attributes; public_key = x } in
    ap with_algorithm a ∙ ap with_key k ∙ ap with_attributes t ∙ ap with_public b

pub one_fields : {A K B T : Type 0} (reads : PartReads A K B T) → PartsOne reads →
    (s : List ℕ) (v w : KeyParts A K B T) → PrivateKeyFields reads s v → PrivateKeyFields reads s w → v ≡ w
one_fields reads one s v w r r' =
    let versions = both_then ReadsVersion _ _ s (version_of v.public_key) (version_of w.public_key) version_value r r' in
    let algorithms = both_then reads.algorithm _ _ versions.rest v.algorithm w.algorithm one.algorithm.value versions.next versions.next' in
    let keys = both_then reads.private_key (AfterKey reads.attributes reads.public_key v.attributes v.public_key)
    (AfterKey reads.attributes reads.public_key w.attributes w.public_key) algorithms.rest v.private_key w.private_key one.private_key.value algorithms.next
    algorithms.next' in
    let version = one_version versions.front (version_of v.public_key) (version_of w.public_key) versions.reads versions.reads' in
    let tails = one_tail reads.attributes reads.public_key one.attributes one.public_key keys.rest v.attributes w.attributes v.public_key w.public_key
    version keys.next keys.next' in
    same_parts v w (one.algorithm.one algorithms.front v.algorithm w.algorithm algorithms.reads algorithms.reads')
    (one.private_key.one keys.front v.private_key w.private_key keys.reads keys.reads') tails.0 tails.1

one_bits : (c : List ℕ) (v w : PlainBits) → BitsContent c v → BitsContent c w → v ≡ w
one_bits c v w h k =
    let with_unused : ℕ → PlainBits = λ n. record { unused_bits = n; octets = v.octets } in
    let with_octets : List ℕ → PlainBits = λ o. record { unused_bits = w.unused_bits; octets = o } in
    ap with_unused (ap first (sym h.is ∙ k.is)) ∙ ap with_octets (ap after_first (sym h.is ∙ k.is))

octets_one : ReadsOne ReadsOctets
octets_one = record {
  value = λ b v r. ReadsTagged-one_value octet_string_tag _ b v tag_4 r;
  one = tagged_one octet_string_tag _ tag_4 (λ c v w h k. h ∙ sym k);
}

key_one : (c : List ℕ) (p q : PlainPrivateKey) → PlainKeyContent c p → PlainKeyContent c q → p ≡ q
key_one = one_fields plain_reads (record {
  algorithm = record { value = algorithm_value; one = algorithm_one };
  private_key = octets_one;
  attributes =
      λ c v w h k. h ∙ sym k;
  public_key = one_bits;
})

pub reads_one_private_key : ReadsOne ReadsPrivateKey
reads_one_private_key = record {
  value = λ b v r. ReadsTagged-one_value sequence_tag PlainKeyContent b v tag_48 r;
  one = tagged_one sequence_tag PlainKeyContent tag_48 key_one;
}

pub private_key_one_answer : (bytes : List ℕ) (one other : Result PlainPrivateKey Error) →
    ReadAnswer ReadsPrivateKey bytes one → ReadAnswer ReadsPrivateKey bytes other → one ≡ other
private_key_one_answer = read_one_answer ReadsPrivateKey reads_one_private_key
