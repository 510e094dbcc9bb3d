-- Items that were taken, and why they were not.
use Rattle.std.proofs.Common.{◌≡◌, ℕ, ◌+◌, ◌<◌, ◌≤◌, ◌^◌, List, [], ◌∷◌, ◌++◌, length, take, arith, refl, ap, sym, ◌∙◌, map, append-nil, Option, Some, None}
use Rattle.std.proofs.Common.{Contains, inl, inr, length-append, subst, Result, Ok, Err, OnErr}
use Rattle.std.proofs.lemmas.Bool.{cases_eq}
use Rattle.std.proofs.lemmas.List.{take_all}
use Rattle.std.specs.Io.KnownBytes.{Consumes, IsAtEnd}
use Rattle.base64_text.specs.declared.errors.Error.{Error}
use Rattle.base64_text.specs.declared.errors.Error.TheVariants.{InvalidEncoding, InvalidLength, OutOfMemory}
use Rattle.base64ct.specs.Items.{IsAppendError, IsTakeError, known_bytes, with_first}
use Rattle.base64ct.proofs.DecoderLemmas.{length-map_some, none_bad}

no_items : (xs : List (Option ℕ)) → length xs ≡ 0 → xs ≡ []
no_items [] h = refl
no_items (x ∷ xs) h = absurd (omega arith)

-- all items were taken
pub none_left : (xs ys : List (Option ℕ)) (a : List ℕ) → xs ≡ map Some a ++ ys → length a ≡ length xs → ys ≡ []
none_left xs ys a is all =
    let l = ap length is in
    let m = length-append (map {A = ℕ} {B = Option ℕ} Some a) ys in
    let n = length-map_some a in
    no_items ys (omega arith)

pub all_taken : (xs ys : List (Option ℕ)) (a : List ℕ) → xs ≡ map Some a ++ ys → length a ≡ length xs → xs ≡ map Some a
all_taken xs ys a is all = is ∙ ap (λ us. map Some a ++ us) (none_left xs ys a is all) ∙ append-nil (map Some a)

-- why all that is left was not appended
pub append_error : (left : List (Option ℕ)) (n k : ℕ) (e : Error) → IsTakeError left k e → k ≡ length left → length left + n < 2 ^ 64 → IsAppendError left n e
append_error left n k InvalidLength h all fits = absurd (omega arith)
append_error left n k InvalidEncoding h all fits = (fits, subst (λ (us : List (Option ℕ)). Contains us None) (take_all k left (omega arith)) h.1)
append_error left n k OutOfMemory h all fits = absurd h

pub no_take : (left : List (Option ℕ)) (k : ℕ) (e : Error) (b : List ℕ) → IsTakeError left k e → k ≡ length left → left ≡ map Some b → ⊥
no_take left k InvalidLength b h all is = omega arith
no_take left k InvalidEncoding b h all is =
    let whole = subst (λ (us : List (Option ℕ)). Contains us None) (take_all k left (omega arith)) h.1 in
    none_bad b (subst (λ (us : List (Option ℕ)). Contains us None) is whole)
no_take left k OutOfMemory b h all is = h

-- a bad item stops a read of at most m bytes
pub read_error : (left : List (Option ℕ)) (n m : ℕ) (e : Error) → IsTakeError left n e → n ≤ length left → n ≤ m → (n < m → n ≡ length left)
    → Contains (take m left) None
read_error left n m InvalidLength h le most all = absurd (omega arith)
read_error left n m InvalidEncoding h le most all = elim (cases_eq n m) [
  | inl is ↦ subst (λ (k : ℕ). Contains (take k left) None) is h.1
  | inr ne ↦ (let lt : n < m = omega (arith, ne) in let e = all lt in
      subst (λ (us : List (Option ℕ)). Contains us None) (take_all n left (omega arith) ∙ sym (take_all m left (omega arith))) h.1)
]
read_error left n m OutOfMemory h le most all = absurd h

pub on_err : {X E : Type 0} (A : Type 0) (r : Result X E) → A → OnErr r A
on_err A (Ok x) a = tt
on_err A (Err e) a = a

-- ---- bytes that are known

consumes_none : (k : Option (List ℕ)) → Consumes k k []
consumes_none None = tt
consumes_none (Some xs) = refl

consumes_first : (x : ℕ) (k l : Option (List ℕ)) (out : List ℕ) → Consumes k l out → Consumes (with_first x k) l (x ∷ out)
consumes_first x None l out h = tt
consumes_first x (Some xs) None out h = h
consumes_first x (Some xs) (Some ys) out h = ap (λ zs. x ∷ zs) h

known_consumes : (out : List ℕ) (left : List (Option ℕ)) → Consumes (known_bytes (map Some out ++ left)) (known_bytes left) out
known_consumes [] left = consumes_none (known_bytes left)
known_consumes (x ∷ out) left = consumes_first x (known_bytes (map Some out ++ left)) (known_bytes left) out (known_consumes out left)

pub consumed : (old new : List (Option ℕ)) (out : List ℕ) → old ≡ map Some out ++ new → Consumes (known_bytes old) (known_bytes new) out
consumed old new out is = subst (λ (us : List (Option ℕ)). Consumes (known_bytes us) (known_bytes new) out) (sym is) (known_consumes out new)

pub at_end_of : (left : List (Option ℕ)) → length left ≡ 0 → IsAtEnd (known_bytes left)
at_end_of [] h = refl
at_end_of (x ∷ left) h = absurd (omega arith)
