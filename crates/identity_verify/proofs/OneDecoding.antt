-- The bytes of a text of base64url.
use Rattle.std.proofs.Common.{◌≡◌, ◌&&◌, ℕ, ◌<◌, true, false, nat_eq, nat_lt, List, [], ◌∷◌, Option, Some, None, arith, refl, sym, ap, inl, inr}
use Rattle.std.specs.Cmp.Lexicographic.{other_text, pointwise, same_text}
use Rattle.std.proofs.lemmas.Bool.{and_parts, cases_Bool, ltb-true}
use Rattle.std.proofs.lemmas.Grind.{common_steps}
use Rattle.std.proofs.lemmas.List.Elements.{All-cons, All-head, All-tail}
use Rattle.base64_alphabet.proofs.TableLemmas.{Facts, facts}
use Rattle.base64_alphabet.specs.Group.{High}
use Rattle.base64_alphabets.specs.Url.{url, url_unpadded}
use Rattle.base64_text.proofs.LooseLemmas.{is_text}
use Rattle.base64ct.specs.Canonical.{IsBytes, loose_bytes}
use Rattle.spiffe_token.specs.Parts.{base64url_text}
use Rattle.identity_verify.specs.Decoding.{IsDecoding, are_octets, base64url_octets, if_encoded}

all_octets : (bytes : List ℕ) → are_octets bytes ≡ true → IsBytes bytes
all_octets [] h = λ k d lt. absurd (omega arith)
all_octets (b ∷ bytes) h =
    let p = and_parts (nat_lt b 256) (are_octets bytes) h in
    All-cons (λ x. x < 256) b bytes (ltb-true _ _ p.0) (all_octets bytes p.1)

octets_all : (bytes : List ℕ) → IsBytes bytes → are_octets bytes ≡ true
octets_all [] h = refl
octets_all (b ∷ bytes) h =
    let low : b < 256 = All-head (λ x. x < 256) b bytes h in
    let first : nat_lt b 256 ≡ true = grind (arith, common_steps) in
    rw first (octets_all bytes (All-tail (λ x. x < 256) b bytes h))

url_facts : Facts url
url_facts = facts url refl

abbrev given : Option (List ℕ) → List ℕ
given None = []
given (Some bytes) = bytes

record Stands (text bytes : List ℕ) : Type 0 where
  octets : IsBytes bytes
  encoded : text ≡ base64url_text bytes

stands : (text bytes b : List ℕ) → if_encoded text bytes ≡ Some b → Stands text b
stands text bytes b is = elim (cases_Bool (are_octets bytes && pointwise nat_eq (base64url_text bytes) text)) [
  | inl e ↦ (let p = and_parts (are_octets bytes) (pointwise nat_eq (base64url_text bytes) text) e in
      let same : bytes ≡ b = ap given (rw e at is) in
      rw (← same) (record { octets = all_octets bytes p.0; encoded = sym (same_text (base64url_text bytes) text (sym p.1)) }))
  | inr e ↦ (let none : None ≡ Some b = rw e at is in absurd (cc))
]

none_stands : (text bytes b : List ℕ) → if_encoded text bytes ≡ None → bytes ≡ b → IsBytes b → text ≡ base64url_text b → ⊥
none_stands text bytes b is same octets encoded = elim (cases_Bool (pointwise nat_eq (base64url_text b) text)) [
  | inl e ↦ (let o = octets_all b octets in let some : Some b ≡ None = rw (o, e) at (rw same at is) in cc)
  | inr e ↦ other_text (base64url_text b) text (sym e) (sym encoded)
]

pub decoding : IsDecoding base64url_octets
decoding = record {
  octets = λ text bytes is. (stands text (loose_bytes url_unpadded text) bytes is).octets;
  encoded = λ text bytes is. (stands text (loose_bytes url_unpadded text) bytes is).encoded;
  refused = λ text is b octets encoded.
      none_stands text (loose_bytes url_unpadded text) b is (is_text High url false text b url_facts octets encoded).loose octets encoded;
}
