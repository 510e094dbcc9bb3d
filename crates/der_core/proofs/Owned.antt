-- From what a borrowed type reads to what its owned form reads.
use Rattle.std.proofs.Common.{◌≡◌, ℕ, ◌<◌, ◌^◌, List, length, Result, Ok, Err, MatchResult, subst, sym}
use Rattle.der_core.specs.declared.error.Error.{Error}
use Rattle.der_core.specs.declared.error.Error.TheVariants as error
use Rattle.der_core.specs.Decode.{FromDer, FromDerOwned, ReadsTagged}
use Rattle.der_core.specs.Laws.{content_fits}

-- A value of each kind for each of the other, read from the same bytes.
pub record SameReads {V P : Type 0} (Reads : List ℕ → V → Type 0) (ReadsPlain : List ℕ → P → Type 0) : Type 0 where
  pub plain : V → P
  pub plain_reads : (b : List ℕ) (v : V) → Reads b v → ReadsPlain b (plain v)
  pub borrowed : (b : List ℕ) (p : P) → ReadsPlain b p → V
  pub borrowed_reads : (b : List ℕ) (p : P) (r : ReadsPlain b p) → Reads b (borrowed b p r)

pub owned_refusal : {V P W : Type 0} (Reads : List ℕ → V → Type 0) (ReadsPlain : List ℕ → P → Type 0) (seen : W → P) (bytes : List ℕ) (e : Error)
    → SameReads Reads ReadsPlain → FromDer Reads bytes (Err e) → FromDerOwned seen ReadsPlain bytes (Err e)
owned_refusal Reads ReadsPlain seen bytes error.Malformed same none = λ b rest p r is. none b rest (same.borrowed b p r) (same.borrowed_reads b p r) is
owned_refusal Reads ReadsPlain seen bytes (error.TrailingData decoded remaining) same t = record {
  front = t.front;
  rest = t.rest;
  value = same.plain t.value;
  reads = same.plain_reads t.front t.value t.reads;
  is = t.is;
  some_rest = t.some_rest;
  decoded_is = t.decoded_is;
  remaining_is = t.remaining_is;
}
owned_refusal Reads ReadsPlain seen bytes (error.TagUnexpected expected actual) same none = none
owned_refusal Reads ReadsPlain seen bytes error.Overlength same none = none
owned_refusal Reads ReadsPlain seen bytes error.OidMalformed same none = none
owned_refusal Reads ReadsPlain seen bytes (error.OidUnknown oid) same none = none
owned_refusal Reads ReadsPlain seen bytes error.FileMissing same none = none
owned_refusal Reads ReadsPlain seen bytes error.FileFault same none = none
owned_refusal Reads ReadsPlain seen bytes error.FileTooLong same none = none
owned_refusal Reads ReadsPlain seen bytes error.OutOfMemory same none = absurd none

pub owned_value : {P W : Type 0} (ReadsPlain : List ℕ → P → Type 0) (seen : W → P) (bytes : List ℕ) (p : P) (r : Result W Error) → ReadsPlain bytes p
    → MatchResult r (λ v. seen v ≡ p) (λ e. e ≡ error.OutOfMemory) → FromDerOwned seen ReadsPlain bytes r
owned_value ReadsPlain seen bytes p (Ok w) reads is = subst (ReadsPlain bytes) (sym is) reads
owned_value ReadsPlain seen bytes p (Err e) reads is = rw is tt

-- The same of values of one tag, from what their contents stand for.
pub same_tagged : {V P : Type 0} (tag : ℕ) (Has : List ℕ → V → Type 0) (HasPlain : List ℕ → P → Type 0) (plain : V → P)
    → ((c : List ℕ) (v : V) → Has c v → HasPlain c (plain v)) → (borrowed : (c : List ℕ) (p : P) → HasPlain c p → length c < 2 ^ 32 → V)
    → ((c : List ℕ) (p : P) (h : HasPlain c p) (fits : length c < 2 ^ 32) → Has c (borrowed c p h fits))
    → SameReads (ReadsTagged tag Has) (ReadsTagged tag HasPlain)
same_tagged tag Has HasPlain plain plain_has borrowed borrowed_has = record {
  plain = plain;
  plain_reads = λ b v r. record { content = r.content; has = plain_has r.content v r.has; is = r.is; fits = r.fits };
  borrowed = λ b p r. borrowed r.content p r.has (content_fits tag r.content (rw (← r.is) r.fits));
  borrowed_reads = λ b p r. record {
    content = r.content;
    has = borrowed_has r.content p r.has (content_fits tag r.content (rw (← r.is) r.fits));
    is = r.is;
    fits = r.fits;
  };
}
