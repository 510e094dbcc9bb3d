-- Types of keys that take some of the keys of another type, as the keys of one algorithm are.
use Rattle.std.proofs.Common.{◌≡◌, ◌⊎◌, ℕ, List, Option, Some, None, Result, Ok, Err, inl, inr, sym, ap, subst, ◌∙◌}
use Rattle.std.proofs.lemmas.Option.{same_Some}

-- The other type answers with this key, and it is taken.
pub record Taken {P Q E : Type 0} (take : P → Option Q) (HasAnswer : List ℕ → Result P E → Type 0) (bytes : List ℕ) (taken : Q) : Type 0 where
  pub key : P
  pub answer : HasAnswer bytes (Ok key)
  pub is : take key ≡ Some taken

-- The other type answers with a key that is not taken.
pub record NotTaken {P Q E : Type 0} (take : P → Option Q) (HasAnswer : List ℕ → Result P E → Type 0) (bytes : List ℕ) : Type 0 where
  pub key : P
  pub answer : HasAnswer bytes (Ok key)
  pub is : take key ≡ None

-- The answers of a type that takes some of the keys of another type and refuses the others so.
abbrev pub TakesSome : {P Q E : Type 0} → (P → Option Q) → E → (List ℕ → Result P E → Type 0) → List ℕ → Result Q E → Type 0
TakesSome take refusal HasAnswer bytes (Ok taken) = Taken take HasAnswer bytes taken
TakesSome take refusal HasAnswer bytes (Err e) = HasAnswer bytes (Err e) ⊎ ((e ≡ refusal) × NotTaken take HasAnswer bytes)

-- One answer to each list of bytes.
abbrev pub OneAnswer : {P E : Type 0} → (List ℕ → Result P E → Type 0) → Type 0
OneAnswer {P = P} {E = E} HasAnswer = (bytes : List ℕ) (one other : Result P E) → HasAnswer bytes one → HasAnswer bytes other → one ≡ other

-- No answer is one of these refusals.
abbrev pub NoSuchRefusal : {P E : Type 0} → (E → Type 0) → (List ℕ → Result P E → Type 0) → Type 0
NoSuchRefusal {E = E} IsSuch HasAnswer = (bytes : List ℕ) (e : E) → HasAnswer bytes (Err e) → IsSuch e → ⊥

same_key : {P E : Type 0} (HasAnswer : List ℕ → Result P E → Type 0) → OneAnswer HasAnswer →
    (bytes : List ℕ) (p q : P) → HasAnswer bytes (Ok p) → HasAnswer bytes (Ok q) → p ≡ q
same_key {P = P} {E = E} HasAnswer law bytes p q h k = let e : (let r : Result P E = Ok p in r) ≡ Ok q = law bytes (Ok p) (Ok q) h k in cc

not_both : {P E : Type 0} (HasAnswer : List ℕ → Result P E → Type 0) → OneAnswer HasAnswer →
    (bytes : List ℕ) (p : P) (e : E) → HasAnswer bytes (Ok p) → HasAnswer bytes (Err e) → ⊥
not_both {P = P} {E = E} HasAnswer law bytes p f h k = let e : (let r : Result P E = Ok p in r) ≡ Err f = law bytes (Ok p) (Err f) h k in cc

pub takes_some_one :
    {P Q E : Type 0} (take : P → Option Q) (refusal : E) (HasAnswer : List ℕ → Result P E → Type 0) →
    OneAnswer HasAnswer → OneAnswer (TakesSome take refusal HasAnswer)
takes_some_one {Q = Q} {E = E} take refusal HasAnswer law bytes (Ok p) (Ok q) h k =
    let ok : Q → Result Q E = λ x. Ok x in
    ap ok (same_Some p q (sym h.is ∙ ap take (same_key HasAnswer law bytes h.key k.key h.answer k.answer) ∙ k.is))
takes_some_one take refusal HasAnswer law bytes (Ok p) (Err f) h (inl k) = absurd (not_both HasAnswer law bytes h.key f h.answer k)
takes_some_one {Q = Q} take refusal HasAnswer law bytes (Ok p) (Err f) h (inr k) =
    let no : (let o : Option Q = Some p in o) ≡ None = sym h.is ∙ ap take (same_key HasAnswer law bytes h.key k.1.key h.answer k.1.answer) ∙ k.1.is in cc
takes_some_one take refusal HasAnswer law bytes (Err e) (Ok q) (inl h) k = absurd (not_both HasAnswer law bytes k.key e k.answer h)
takes_some_one {Q = Q} take refusal HasAnswer law bytes (Err e) (Ok q) (inr h) k =
    let no : (let o : Option Q = Some q in o) ≡ None = sym k.is ∙ ap take (same_key HasAnswer law bytes k.key h.1.key k.answer h.1.answer) ∙ h.1.is in cc
takes_some_one {P = P} {Q = Q} {E = E} take refusal HasAnswer law bytes (Err e) (Err f) (inl h) (inl k) =
    let err : E → Result Q E = λ x. Err x in
    let is : (let r : Result P E = Err e in r) ≡ Err f = law bytes (Err e) (Err f) h k in
    let same : e ≡ f = cc in
    ap err same
takes_some_one take refusal HasAnswer law bytes (Err e) (Err f) (inl h) (inr k) = absurd (not_both HasAnswer law bytes k.1.key e k.1.answer h)
takes_some_one take refusal HasAnswer law bytes (Err e) (Err f) (inr h) (inl k) = absurd (not_both HasAnswer law bytes h.1.key f h.1.answer k)
takes_some_one {Q = Q} {E = E} take refusal HasAnswer law bytes (Err e) (Err f) (inr h) (inr k) = let err : E → Result Q E = λ x. Err x in
    ap err (h.0 ∙ sym k.0)

pub takes_some_no_file :
    {P Q E : Type 0} (take : P → Option Q) (refusal : E) (HasAnswer : List ℕ → Result P E → Type 0) (IsSuch : E → Type 0) →
    (IsSuch refusal → ⊥) → NoSuchRefusal IsSuch HasAnswer → NoSuchRefusal IsSuch (TakesSome take refusal HasAnswer)
takes_some_no_file take refusal HasAnswer IsSuch other law bytes e (inl h) such = law bytes e h such
takes_some_no_file take refusal HasAnswer IsSuch other law bytes e (inr h) such = other (subst IsSuch h.0 such)
