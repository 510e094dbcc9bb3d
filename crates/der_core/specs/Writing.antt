-- What one write after another wrote.
use Rattle.std.proofs.Common.{◌≡◌, ℕ, ◌^◌, ◌<◌, ◌≤◌, List, [], ◌++◌, length, Option, Result, Ok, Err, refl, sym, ap, ◌∙◌, inl, inr, arith, append_assoc}
use Rattle.std.proofs.Common.{append-nil, length-append, IfErr, is_ok, if◌then◌else◌}
use Rattle.identity_io.specs.Causes.{Rose}
use Rattle.der_core.specs.declared.error.Error.{Error}
use Rattle.der_core.specs.declared.error.Error.TheVariants as error
use Rattle.der_core.specs.Encode.{GivenPart, Refused, Wrote}

-- A writer that was given nothing was given a first part.
given_nothing : {W : Type 0} {HasTold : W → List ℕ → Type 0} {old new : W} {bytes : List ℕ} →
    ((m : List ℕ) → HasTold old m → HasTold new m) → GivenPart HasTold old new bytes
given_nothing {bytes = bytes} same = record { front = []; rest = bytes; is = refl; told = λ m told. rw (append-nil m) (same m told) }

-- A first part of a part is one of the whole.
given_front : {W : Type 0} {HasTold : W → List ℕ → Type 0} {old new : W} {a : List ℕ} (b : List ℕ) →
    GivenPart HasTold old new a → GivenPart HasTold old new (a ++ b)
given_front b g = record {
  front = g.front;
  rest = g.rest ++ b;
  is = ap (λ (x : List ℕ). x ++ b) g.is ∙ append_assoc g.front g.rest b;
  told = g.told;
}

-- A part and then a first part of what follows is a first part of the whole.
given_behind : {W : Type 0} {HasTold : W → List ℕ → Type 0} {old mid new : W} {b : List ℕ} (a : List ℕ) →
    ((m : List ℕ) → HasTold old m → HasTold mid (m ++ a)) → GivenPart HasTold mid new b →
    GivenPart HasTold old new (a ++ b)
given_behind a first g = record {
  front = a ++ g.front;
  rest = g.rest;
  is = ap (λ (x : List ℕ). a ++ x) g.is ∙ sym (append_assoc a g.front g.rest);
  told = λ m told. rw (← append_assoc m a g.front) (g.told (m ++ a) (first m told));
}

rose_later : (before between now : ℕ) → before ≤ between → Rose between now → Rose before now
rose_later before between now later rose = let r : Rose between now = rose in omega arith

-- What was written behind a slice is written with it.
pub wrote_behind :
    {W X : Type 0} {HasTold : W → List ℕ → Type 0} {refusals : W → ℕ} {last_refusal : W → Option Error} {old mid new : W} {b : List ℕ} {r : Result X Error}
    (a : List ℕ) →
    ((m : List ℕ) → HasTold old m → HasTold mid (m ++ a)) → refusals old ≤ refusals mid →
    Wrote HasTold refusals last_refusal mid new b r → length (a ++ b) < 2 ^ 32 →
    Wrote HasTold refusals last_refusal old new (a ++ b) r
wrote_behind {b = b} {r = Ok x} a first count w fits = record {
  ok = (fits, λ m told. rw (← append_assoc m a b) (w.ok.1 (m ++ a) (first m told)));
  err = tt;
  part = tt;
}
wrote_behind {refusals = n} {old = old} {mid = mid} {new = new} {b = b} {r = Err e} a first count w fits = record {
  ok = tt;
  err = elim w.err [
    | inl long ↦ let l : 2 ^ 32 ≤ length b = long.0 in absurd (omega (arith, length-append a b))
    | inr refused ↦ inr (fits, record { rose = rose_later (n old) (n mid) (n new) count refused.1.rose; last = refused.1.last })
  ];
  part = given_behind a first w.part;
}

-- A field, and what was written behind it, are written together.
pub wrote_then :
    {W X Y : Type 0} {HasTold : W → List ℕ → Type 0} {refusals : W → ℕ} {last_refusal : W → Option Error} {old mid new : W} {a b : List ℕ} {x : Y}
    {r : Result X Error} →
    Wrote {X = Y} HasTold refusals last_refusal old mid a (Ok x) → refusals old ≤ refusals mid →
    Wrote HasTold refusals last_refusal mid new b r → length (a ++ b) < 2 ^ 32 →
    Wrote HasTold refusals last_refusal old new (a ++ b) r
wrote_then {a = a} first count second fits = wrote_behind a first.ok.1 count second fits

-- A field that was refused is a refusal of the whole, where that isn't too long.
pub wrote_refused :
    {W X Y : Type 0} {HasTold : W → List ℕ → Type 0} {refusals : W → ℕ} {last_refusal : W → Option Error} {old new : W} {a : List ℕ} {e : Error}
    {r : Result X Error} (b : List ℕ) →
    Wrote {X = Y} HasTold refusals last_refusal old new a (Err e) → r ≡ Err e → length (a ++ b) < 2 ^ 32 →
    Wrote HasTold refusals last_refusal old new (a ++ b) r
wrote_refused {a = a} b w is fits = rw is (record {
  ok = tt;
  err = elim w.err [
    | inl long ↦ let l : 2 ^ 32 ≤ length a = long.0 in absurd (omega (arith, length-append a b))
    | inr refused ↦ inr (fits, refused.1)
  ];
  part = given_front b w.part;
})

-- Bytes that are too long are not written.
pub wrote_long :
    {W X : Type 0} {HasTold : W → List ℕ → Type 0} {refusals : W → ℕ} {last_refusal : W → Option Error} {w : W} {bytes : List ℕ} {r : Result X Error} →
    r ≡ Err error.Overlength → 2 ^ 32 ≤ length bytes → Wrote HasTold refusals last_refusal w w bytes r
wrote_long is long = rw is (record { ok = tt; err = inl (long, refl); part = given_nothing (λ m told. told) })

-- The writer refused the first slice, of which it took nothing.
pub wrote_nothing :
    {W X : Type 0} {HasTold : W → List ℕ → Type 0} {refusals : W → ℕ} {last_refusal : W → Option Error} {old new : W} {bytes : List ℕ} {e : Error}
    {r : Result X Error} →
    Refused refusals last_refusal old new e → ((m : List ℕ) → HasTold old m → HasTold new m) → r ≡ Err e →
    length bytes < 2 ^ 32 → Wrote HasTold refusals last_refusal old new bytes r
wrote_nothing refused same is fits = rw is (record { ok = tt; err = inr (fits, refused); part = given_nothing same })

-- What a call of `write` wrote.
pub wrote_slice :
    {W X : Type 0} {HasTold : W → List ℕ → Type 0} {refusals : W → ℕ} {last_refusal : W → Option Error} {old new : W} {r : Result X Error} (bytes : List ℕ) →
    ((m : List ℕ) → HasTold old m → HasTold new (if is_ok r then m ++ bytes else m)) →
    IfErr r (Refused refusals last_refusal old new) → length bytes < 2 ^ 32 →
    Wrote HasTold refusals last_refusal old new bytes r
wrote_slice {r = Ok x} bytes told refused fits = record { ok = (fits, told); err = tt; part = tt }
wrote_slice {r = Err e} bytes told refused fits = wrote_nothing refused told refl fits
