-- What is read of an algorithm identifier is what is written.
use Rattle.std.proofs.Common.{◌≡◌, ℕ, ◌<◌, ◌^◌, List, ◌++◌, length, Option, Some, None, refl, ap, sym, ◌∙◌}
use Rattle.der_core.specs.Der.{encode}
use Rattle.der_core.specs.SequenceLaws.{front_fits, rest_fits}
use Rattle.der_core.specs.ObjectIdentifier.{oid_content}
use Rattle.der_core.specs.Tags.{oid_tag}
use Rattle.spki.specs.declared.algorithm.AlgorithmIdentifier.{AlgorithmIdentifier}
use Rattle.spki.specs.Algorithm.{AreParameters, AlgorithmContent, optional_bytes, algorithm_content}
use Rattle.der_core.specs.Readings.{AreReadBack, AreWritten}

parameters_are : {P : Type 0} (Reads : List ℕ → P → Type 0) (encoding : P → List ℕ) (rest : List ℕ) (p : Option P) →
    AreWritten Reads encoding → AreParameters Reads p rest → rest ≡ optional_bytes encoding p
parameters_are Reads encoding rest None law a = a
parameters_are Reads encoding rest (Some p) law a = law rest p a

parameters_read : {P : Type 0} (Reads : List ℕ → P → Type 0) (encoding : P → List ℕ) (p : Option P) →
    AreReadBack Reads encoding → length (optional_bytes encoding p) < 2 ^ 32 →
    AreParameters Reads p (optional_bytes encoding p)
parameters_read Reads encoding None law fits = refl
parameters_read Reads encoding (Some p) law fits = law p fits

pub algorithm_reads_content : {P : Type 0} (Reads : List ℕ → P → Type 0) (encoding : P → List ℕ) →
    AreWritten Reads encoding → (b : List ℕ) (v : AlgorithmIdentifier P) → AlgorithmContent Reads b v →
    b ≡ algorithm_content encoding v
algorithm_reads_content Reads encoding law b v a =
    let o : a.front ≡ encode oid_tag (oid_content v.oid) = a.reads.is ∙ ap (λ (x : List ℕ). encode oid_tag x) (sym a.reads.has) in
    a.is ∙ ap (λ (x : List ℕ). x ++ a.rest) o ∙ ap (λ (x : List ℕ). encode oid_tag (oid_content v.oid) ++ x)
    (parameters_are Reads encoding a.rest v.parameters law a.next)

pub algorithm_content_reads : {P : Type 0} (Reads : List ℕ → P → Type 0) (encoding : P → List ℕ) →
    AreReadBack Reads encoding → (v : AlgorithmIdentifier P) → length (algorithm_content encoding v) < 2 ^ 32 →
    AlgorithmContent Reads (algorithm_content encoding v) v
algorithm_content_reads Reads encoding law v fits =
    let o : List ℕ = encode oid_tag (oid_content v.oid) in
    let p : List ℕ = optional_bytes encoding v.parameters in
    record {
      front = o;
      rest = p;
      is = refl;
      reads = record { content = oid_content v.oid; has = refl; is = refl; fits = front_fits o p fits };
      next = parameters_read Reads encoding v.parameters law (rest_fits o p fits);
    }
