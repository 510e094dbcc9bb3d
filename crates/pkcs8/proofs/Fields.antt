-- What one field says of the fields that it stands before.
use Rattle.std.proofs.Common.{◌≡◌, ◌↔◌, ℕ, zero, suc, ◌+◌, ◌<◌, ◌≤◌, ◌^◌, List, [], ◌∷◌, ◌++◌, length, true, eqb, refl, sym, ap, ◌∙◌, arith, length-append}
use Rattle.std.proofs.lemmas.Bool.{eqb-true}
use Rattle.std.proofs.lemmas.List.{append-nil}
use Rattle.der_core.specs.Der.{IsTag, IsValue, encode}
use Rattle.der_core.specs.Laws.{length_encode}
use Rattle.der_core.specs.ValueLaws.{same_value}
use Rattle.pkcs8.specs.Extensions.{Extensions, IsExtensions}

pub is_empty_true : (s : List ℕ) → eqb (length s) 0 ≡ true → s ≡ []
is_empty_true [] e = refl
is_empty_true (x ∷ s) e = let h : length (x ∷ s) ≡ 0 = eqb-true (length (x ∷ s)) 0 e in absurd (omega arith)

-- Where a value stands at the front, the bytes are one value exactly where nothing follows.
pub one_value_iff : (s : List ℕ) (tag : ℕ) (content rest : List ℕ) → IsTag tag → (s ≡ encode tag content ++ rest) × (length (encode tag content) < 2 ^ 32)
    → (rest ≡ []) ↔ IsValue s
one_value_iff s tag content rest t found = (
  (λ none.
      let is : s ≡ encode tag content = found.0 ∙ ap (λ (x : List ℕ). encode tag content ++ x) none ∙ append-nil (encode tag content) in
      record { tag = tag; content = content; tag_ok = t; is = is; fits = rw is found.1 }),
  (λ v.
      let fits : length (encode v.tag v.content) < 2 ^ 32 = rw (← v.is) v.fits in
      let whole : encode tag content ++ rest ≡ encode v.tag v.content ++ [] = sym found.0 ∙ v.is ∙ sym (append-nil (encode v.tag v.content)) in
      let same = same_value tag content rest v.tag v.content [] t found.1 v.tag_ok fits whole in
      same.rests),
)

pub no_value : (s : List ℕ) → ((b rest : List ℕ) → IsValue b → s ≡ b ++ rest → ⊥) → IsValue s → ⊥
no_value s none v = none s [] v (sym (append-nil s))

pub record FirstField (tag : ℕ) (content rest : List ℕ) : Type 0 where
  pub low : 160 ≤ tag
  pub high : tag ≤ 190
  pub one : IsValue content
  pub next : IsExtensions rest

first_of : (n : ℕ) (s : List ℕ) (tag : ℕ) (content rest : List ℕ) → IsTag tag → (s ≡ encode tag content ++ rest) × (length (encode tag content) < 2 ^ 32)
    → Extensions n s → FirstField tag content rest
unfolding Extensions
first_of zero s tag content rest t found e =
    let empty : length s ≡ 0 = ap length e in
    let l : length s ≡ length (encode tag content) + length rest = ap length found.0 ∙ length-append (encode tag content) rest in
    let h = length_encode tag content in
    absurd (omega arith)
first_of (suc n) s tag content rest t found e =
    let whole : encode e.tag e.content ++ e.rest ≡ encode tag content ++ rest = sym e.is ∙ found.0 in
    let same = same_value e.tag e.content e.rest tag content rest e.tag_ok e.fits t found.1 whole in
    record {
      low = rw (← same.tags) e.low;
      high = rw (← same.tags) e.high;
      one = rw (← same.contents) e.one;
      next = record { count = n; are = rw (← same.rests) e.next };
    }

pub first_field : (s : List ℕ) (tag : ℕ) (content rest : List ℕ) → IsTag tag → (s ≡ encode tag content ++ rest) × (length (encode tag content) < 2 ^ 32)
    → IsExtensions s → FirstField tag content rest
first_field s tag content rest t found e = first_of e.count s tag content rest t found e.are

pub with_field : (s : List ℕ) (tag : ℕ) (content rest : List ℕ) → IsTag tag → (s ≡ encode tag content ++ rest) × (length (encode tag content) < 2 ^ 32)
    → 160 ≤ tag → tag ≤ 190 → IsValue content → IsExtensions rest → IsExtensions s
unfolding Extensions
with_field s tag content rest t found low high one e = record {
  count = suc e.count;
  are = record { tag = tag; content = content; rest = rest; is = found.0; fits = found.1; tag_ok = t; low = low; high = high; one = one; next = e.are };
}

no_field_at : (n : ℕ) (s : List ℕ) → ((b rest : List ℕ) → IsValue b → s ≡ b ++ rest → ⊥) → Extensions n s → s ≡ []
unfolding Extensions
no_field_at zero s none e = e
no_field_at (suc n) s none e = absurd (none (encode e.tag e.content) e.rest
    (record { tag = e.tag; content = e.content; tag_ok = e.tag_ok; is = refl; fits = e.fits }) e.is)

pub no_field : (s : List ℕ) → ((b rest : List ℕ) → IsValue b → s ≡ b ++ rest → ⊥) → IsExtensions s → s ≡ []
no_field s none e = no_field_at e.count s none e.are

pub no_fields : (s : List ℕ) → s ≡ [] → IsExtensions s
unfolding Extensions
no_fields s e = record { count = zero; are = e }

pub shorter : (s : List ℕ) (tag : ℕ) (content rest : List ℕ) → s ≡ encode tag content ++ rest → length rest < length s
shorter s tag content rest e =
    let l : length s ≡ length (encode tag content) + length rest = ap length e ∙ length-append (encode tag content) rest in
    let h = length_encode tag content in
    omega arith
