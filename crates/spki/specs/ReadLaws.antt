-- One answer to each list of bytes.
use Rattle.std.proofs.Common.{◌≡◌, ℕ, ◌<◌, ◌^◌, nat_lt, List, [], ◌∷◌, ◌++◌, length, Bool, true, false, Option, Some, None, Result, Ok, Err, IfSome, refl, sym}
use Rattle.std.proofs.Common.{ap, subst, ◌∙◌, if◌then◌else◌}
use Rattle.der_core.specs.Any.{PlainAny, der_of}
use Rattle.der_core.specs.Decode.{NoFront, Trails}
use Rattle.der_core.specs.Der.{IsTag, IsValue, encode}
use Rattle.der_core.specs.Laws.{content_fits}
use Rattle.der_core.specs.SequenceLaws.{ReadsOne, front_fits, no_front_of, no_trail_front, no_trail_of, rest_fits, same_trail}
use Rattle.der_core.specs.Tags.{bit_string_tag, oid_tag, sequence_tag, tag_3, tag_48, tag_6}
use Rattle.der_core.specs.ValueLaws.{same_value}
use Rattle.der_core.specs.declared.error.Error.{Error as DerError}
use Rattle.der_core.specs.declared.error.Error.TheVariants as der
use Rattle.spki.specs.declared.error.Error.{Error}
use Rattle.spki.specs.declared.error.Error.TheVariants as error
use Rattle.spki.specs.Algorithm.{optional_bytes}
use Rattle.spki.specs.Answers.{IsOfAFile, ReadAnswer, written_answer}
use Rattle.spki.specs.PlainAlgorithm.{PlainAlgorithm, IsAlgorithm, ReadsAlgorithm, algorithm_der}
use Rattle.spki.specs.PlainPublicKey.{PlainPublicKey, IsPublicKey, ReadsPublicKey, public_key_der}

-- The three answers, of an error type into which the errors of DER go.
pub data Outcome {P E : Type 0} (asn1 : DerError → E) (Reads : List ℕ → P → Type 0) (bytes : List ℕ) (r : Result P E) : Type 0 where
  read : (v : P) → r ≡ Ok v → Reads bytes v → Outcome asn1 Reads bytes r
  malformed : r ≡ Err (asn1 der.Malformed) → NoFront Reads bytes → Outcome asn1 Reads bytes r
  trailing : (decoded remaining : ℕ) → r ≡ Err (asn1 (der.TrailingData decoded remaining)) → Trails Reads bytes decoded remaining → Outcome asn1 Reads bytes r

pub same_outcome : {P E : Type 0} (asn1 : DerError → E) (Reads : List ℕ → P → Type 0) → ReadsOne Reads →
    (bytes : List ℕ) (r s : Result P E) → Outcome asn1 Reads bytes r → Outcome asn1 Reads bytes s → r ≡ s
same_outcome {P = P} {E = E} asn1 Reads law bytes r s (read v e h) (read w f k) = let ok : P → Result P E = λ x. Ok x in e ∙ ap ok (law.one bytes v w h k)
    ∙ sym f
same_outcome asn1 Reads law bytes r s (read v e h) (malformed f k) = absurd (no_front_of Reads bytes v h k)
same_outcome asn1 Reads law bytes r s (read v e h) (trailing d n f k) = absurd (no_trail_of Reads law bytes v d n h k)
same_outcome asn1 Reads law bytes r s (malformed e h) (read w f k) = absurd (no_front_of Reads bytes w k h)
same_outcome asn1 Reads law bytes r s (malformed e h) (malformed f k) = e ∙ sym f
same_outcome asn1 Reads law bytes r s (malformed e h) (trailing d n f k) = absurd (no_trail_front Reads bytes d n h k)
same_outcome asn1 Reads law bytes r s (trailing d n e h) (read w f k) = absurd (no_trail_of Reads law bytes w d n k h)
same_outcome asn1 Reads law bytes r s (trailing d n e h) (malformed f k) = absurd (no_trail_front Reads bytes d n k h)
same_outcome {P = P} {E = E} asn1 Reads law bytes r s (trailing d n e h) (trailing d' n' f k) =
    let same = same_trail Reads law bytes d n d' n' h k in
    let with_decoded : ℕ → Result P E = λ x. Err (asn1 (der.TrailingData x n)) in
    let with_remaining : ℕ → Result P E = λ x. Err (asn1 (der.TrailingData d' x)) in
    e ∙ ap with_decoded same.0 ∙ ap with_remaining same.1 ∙ sym f

abbrev of_der : DerError → Error
of_der e = error.Asn1 e

outcome_of : {P : Type 0} (Reads : List ℕ → P → Type 0) (bytes : List ℕ) (r : Result P Error) → ReadAnswer Reads bytes r → Outcome of_der Reads bytes r
outcome_of Reads bytes (Ok v) h = read v refl h
outcome_of Reads bytes (Err (error.Asn1 der.Malformed)) h = malformed refl h
outcome_of Reads bytes (Err (error.Asn1 (der.TrailingData decoded remaining))) h = trailing decoded remaining refl h
outcome_of Reads bytes (Err _) h = absurd h

pub read_one_answer : {P : Type 0} (Reads : List ℕ → P → Type 0) → ReadsOne Reads →
    (bytes : List ℕ) (one other : Result P Error) → ReadAnswer Reads bytes one → ReadAnswer Reads bytes other →
    one ≡ other
read_one_answer Reads law bytes one other h k = same_outcome of_der Reads law bytes one other (outcome_of Reads bytes one h) (outcome_of Reads bytes other k)

pub read_no_file : {P : Type 0} (Reads : List ℕ → P → Type 0) (bytes : List ℕ) (e : Error) → ReadAnswer Reads bytes (Err e) → IsOfAFile e → ⊥
read_no_file Reads bytes (error.Asn1 der.FileMissing) h file = h
read_no_file Reads bytes (error.Asn1 der.FileFault) h file = h
read_no_file Reads bytes (error.Asn1 der.FileTooLong) h file = h
read_no_file Reads bytes _ h file = absurd file

abbrev RefusedByFile : Result (List ℕ) Error → Type 0
RefusedByFile (Ok bytes) = ⊥
RefusedByFile (Err e) = IsOfAFile e

written_no_file_at : (fits : Bool) (bytes : List ℕ) (e : Error) → (if fits then Ok bytes else Err (error.Asn1 der.Overlength)) ≡ Err e → IsOfAFile e → ⊥
written_no_file_at true bytes e is file = subst RefusedByFile (sym is) file
written_no_file_at false bytes e is file = subst RefusedByFile (sym is) file

pub written_no_file : (bytes : List ℕ) (e : Error) → written_answer bytes ≡ Err e → IsOfAFile e → ⊥
written_no_file bytes e is file = written_no_file_at (nat_lt (length bytes) (2 ^ 32)) bytes e is file

abbrev HoldsNothing : List ℕ → Type 0
HoldsNothing [] = Unit {0}
HoldsNothing (x ∷ xs) = ⊥

some_encoding : (p : PlainAny) → [] ≡ der_of p → ⊥
unfolding encode
some_encoding p e = subst HoldsNothing e tt

same_parameters : (o q : Option PlainAny) → IfSome o (λ p. IsTag p.tag) → IfSome q (λ p. IsTag p.tag) →
    length (optional_bytes der_of o) < 2 ^ 32 → length (optional_bytes der_of q) < 2 ^ 32 →
    optional_bytes der_of o ≡ optional_bytes der_of q → o ≡ q
same_parameters None None lo lq fo fq e = refl
same_parameters None (Some q) lo lq fo fq e = absurd (some_encoding q e)
same_parameters (Some p) None lo lq fo fq e = absurd (some_encoding p (sym e))
same_parameters (Some p) (Some q) lo lq fo fq e =
    let same = same_value p.tag p.content [] q.tag q.content [] lo fo lq fq (ap (λ (x : List ℕ). x ++ []) e) in
    let with_tag : ℕ → Option PlainAny = λ t. Some (record { tag = t; content = p.content }) in
    let with_content : List ℕ → Option PlainAny = λ c. Some (record { tag = q.tag; content = c }) in
    ap with_tag same.tags ∙ ap with_content same.contents

same_fields : (p q : PlainAlgorithm) → IsAlgorithm p → IsAlgorithm q →
    length (encode oid_tag p.oid ++ optional_bytes der_of p.parameters) < 2 ^ 32 →
    length (encode oid_tag q.oid ++ optional_bytes der_of q.parameters) < 2 ^ 32 →
    encode oid_tag p.oid ++ optional_bytes der_of p.parameters ≡ encode oid_tag q.oid ++ optional_bytes der_of q.parameters →
    p ≡ q
same_fields p q lp lq fp fq e =
    let same = same_value 6 p.oid (optional_bytes der_of p.parameters) 6 q.oid (optional_bytes der_of q.parameters)
    tag_6 (front_fits (encode oid_tag p.oid) (optional_bytes der_of p.parameters) fp) tag_6
    (front_fits (encode oid_tag q.oid) (optional_bytes der_of q.parameters) fq) e in
    let parameters = same_parameters p.parameters q.parameters lp.parameters lq.parameters
    (rest_fits (encode oid_tag p.oid) (optional_bytes der_of p.parameters) fp) (rest_fits (encode oid_tag q.oid) (optional_bytes der_of q.parameters) fq)
    same.rests in
    let with_oid : List ℕ → PlainAlgorithm = λ o. record { oid = o; parameters = p.parameters } in
    let with_parameters : Option PlainAny → PlainAlgorithm = λ o. record { oid = q.oid; parameters = o } in
    ap with_oid same.contents ∙ ap with_parameters parameters

abbrev first : List ℕ → ℕ
first [] = 0
first (x ∷ xs) = x

abbrev after_first : List ℕ → List ℕ
after_first [] = []
after_first (x ∷ xs) = xs

same_keys : (p q : PlainPublicKey) → IsPublicKey p → IsPublicKey q → length (public_key_der p) < 2 ^ 32 →
    length (public_key_der q) < 2 ^ 32 → public_key_der p ≡ public_key_der q → p ≡ q
same_keys p q lp lq fp fq e =
    let key_p : List ℕ = encode bit_string_tag (p.key.unused_bits ∷ p.key.octets) in
    let key_q : List ℕ = encode bit_string_tag (q.key.unused_bits ∷ q.key.octets) in
    let a_p : List ℕ = encode oid_tag p.algorithm.oid ++ optional_bytes der_of p.algorithm.parameters in
    let a_q : List ℕ = encode oid_tag q.algorithm.oid ++ optional_bytes der_of q.algorithm.parameters in
    let content_p = content_fits sequence_tag (encode sequence_tag a_p ++ key_p) fp in
    let content_q = content_fits sequence_tag (encode sequence_tag a_q ++ key_q) fq in
    let whole = same_value 48 (encode sequence_tag a_p ++ key_p) [] 48 (encode sequence_tag a_q ++ key_q) [] tag_48 fp tag_48 fq
    (ap (λ (x : List ℕ). x ++ []) e) in
    let fit_p = front_fits (encode sequence_tag a_p) key_p content_p in
    let fit_q = front_fits (encode sequence_tag a_q) key_q content_q in
    let parts = same_value 48 a_p key_p 48 a_q key_q tag_48 fit_p tag_48 fit_q whole.contents in
    let algorithm = same_fields p.algorithm q.algorithm lp.algorithm lq.algorithm (content_fits sequence_tag a_p fit_p)
    (content_fits sequence_tag a_q fit_q) parts.contents in
    let key = same_value 3 (p.key.unused_bits ∷ p.key.octets) [] 3 (q.key.unused_bits ∷ q.key.octets) []
    tag_3 (rest_fits (encode sequence_tag a_p) key_p content_p) tag_3 (rest_fits (encode sequence_tag a_q) key_q content_q)
    (ap (λ (x : List ℕ). x ++ []) parts.rests) in
    let bits : p.key.unused_bits ∷ p.key.octets ≡ q.key.unused_bits ∷ q.key.octets = key.contents in
    let unused : p.key.unused_bits ≡ q.key.unused_bits = ap first bits in
    let octets : p.key.octets ≡ q.key.octets = ap after_first bits in
    let with_algorithm : PlainAlgorithm → PlainPublicKey = λ a. record { algorithm = a; key = p.key } in
    let with_unused : ℕ → PlainPublicKey = λ n. record { algorithm = q.algorithm; key = record { unused_bits = n; octets = p.key.octets } } in
    let with_octets : List ℕ → PlainPublicKey = λ o. record { algorithm = q.algorithm; key = record { unused_bits = q.key.unused_bits; octets = o } } in
    ap with_algorithm algorithm ∙ ap with_unused unused ∙ ap with_octets octets

pub public_key_value : (b : List ℕ) (p : PlainPublicKey) → ReadsPublicKey b p → IsValue b
public_key_value b p r = record {
  tag = sequence_tag;
  content = algorithm_der p.algorithm ++ encode bit_string_tag (p.key.unused_bits ∷ p.key.octets);
  tag_ok = tag_48;
  is = r.is;
  fits = r.fits;
}

public_key_one : (b : List ℕ) (p q : PlainPublicKey) → ReadsPublicKey b p → ReadsPublicKey b q → p ≡ q
public_key_one b p q r s = same_keys p q r.lawful s.lawful (subst (λ (x : List ℕ). length x < 2 ^ 32) r.is r.fits)
    (subst (λ (x : List ℕ). length x < 2 ^ 32) s.is s.fits) (sym r.is ∙ s.is)

pub reads_one_public_key : ReadsOne ReadsPublicKey
reads_one_public_key = record { value = public_key_value; one = public_key_one }

pub public_key_one_answer : (bytes : List ℕ) (one other : Result PlainPublicKey Error) →
    ReadAnswer ReadsPublicKey bytes one → ReadAnswer ReadsPublicKey bytes other → one ≡ other
public_key_one_answer = read_one_answer ReadsPublicKey reads_one_public_key

pub algorithm_one : (b : List ℕ) (p q : PlainAlgorithm) → ReadsAlgorithm b p → ReadsAlgorithm b q → p ≡ q
algorithm_one b p q r s =
    let a_p : List ℕ = encode oid_tag p.oid ++ optional_bytes der_of p.parameters in
    let a_q : List ℕ = encode oid_tag q.oid ++ optional_bytes der_of q.parameters in
    let fit_p = subst (λ (x : List ℕ). length x < 2 ^ 32) r.is r.fits in
    let fit_q = subst (λ (x : List ℕ). length x < 2 ^ 32) s.is s.fits in
    let same = same_value 48 a_p [] 48 a_q [] tag_48 fit_p tag_48 fit_q (ap (λ (x : List ℕ). x ++ []) (sym r.is ∙ s.is)) in
    same_fields p q r.lawful s.lawful (content_fits sequence_tag a_p fit_p) (content_fits sequence_tag a_q fit_q) same.contents

pub algorithm_value : (b : List ℕ) (p : PlainAlgorithm) → ReadsAlgorithm b p → IsValue b
algorithm_value b p r = record {
  tag = sequence_tag;
  content = encode oid_tag p.oid ++ optional_bytes der_of p.parameters;
  tag_ok = tag_48;
  is = r.is;
  fits = r.fits;
}
