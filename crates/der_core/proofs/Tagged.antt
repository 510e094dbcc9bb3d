-- Which value of a fixed tag stands at the front.
use Rattle.std.proofs.Common.{◌≡◌, ℕ, ◌^◌, ◌<◌, List, ◌++◌, length, Result, Ok, Err, ap, sym, ◌∙◌}
use Rattle.std.specs.Prelude.{OnErr}
use Rattle.der_core.specs.Der.{IsTag, encode}
use Rattle.der_core.specs.Decode.{ReadsTagged}
use Rattle.der_core.specs.ValueLaws.{same_value}

pub on_err_any : {T E P : Type 0} (r : Result T E) → P → OnErr r P
on_err_any (Ok x) p = tt
on_err_any (Err e) p = p

pub record AtFront {V : Type 0} (tag : ℕ) (content : List ℕ) (fixed : ℕ) (HasContent : List ℕ → V → Type 0) (v : V) : Type 0 where
  pub tag_is : tag ≡ fixed
  pub has : HasContent content v

-- Where a value stands at the front, a value of a fixed tag that stands there is that one.
pub at_front : {V : Type 0} (HasContent : List ℕ → V → Type 0) (fixed tag : ℕ) (s content rest : List ℕ) → IsTag tag → IsTag fixed
    → (s ≡ encode tag content ++ rest) × (length (encode tag content) < 2 ^ 32) → (b rest' : List ℕ) (v : V) → ReadsTagged fixed HasContent b v
    → s ≡ b ++ rest' → AtFront tag content fixed HasContent v
at_front H fixed tag s content rest t t' found b rest' v r e =
    let fits : length (encode fixed r.content) < 2 ^ 32 = rw (← r.is) r.fits in
    let whole : encode tag content ++ rest ≡ encode fixed r.content ++ rest' = sym found.0 ∙ e ∙ ap (λ (x : List ℕ). x ++ rest') r.is in
    let same = same_value tag content rest fixed r.content rest' t found.1 t' fits whole in
    record { tag_is = same.tags; has = rw same.contents r.has }
