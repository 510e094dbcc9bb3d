-- A token has one answer.
use Rattle.std.proofs.Common.{◌≡◌, ℕ, ◌⊎◌, inl, inr, List, false, Result, Err, Option, Some, None, refl, sym, ap, arith, ◌∙◌}
use Rattle.std.specs.Option.{MatchOption}
use Rattle.base64_alphabet.specs.Group.{High}
use Rattle.base64_alphabet.proofs.TableLemmas.{facts}
use Rattle.base64_alphabets.specs.Url.{url}
use Rattle.base64ct.proofs.DecoderLemmas.{one_value}
use Rattle.spiffe_token.specs.declared.error.JwtSvidError.{JwtSvidError}
use Rattle.spiffe_token.specs.declared.error.JwtSvidError.TheVariants.{InvalidJwtFormat}
use Rattle.spiffe_token.specs.Parts.{IsPart, IsNoPart, Parts}
use Rattle.spiffe_token.specs.JwtSvid.{Svid, svid_of, AnswersParts}

one_part : (part a b : List ℕ) → IsPart part a → IsPart part b → a ≡ b
one_part part a b p q = one_value High url false part a b (facts url refl) p.octets q.octets p.encoded q.encoded

no_part : (part a : List ℕ) → IsPart part a → IsNoPart part → ⊥
no_part part a p (inl long) = omega (arith, long, p.short)
no_part part a p (inr none) = none a p.octets p.encoded

neither : (p : Parts) (a b : List ℕ) → IsPart p.header a → IsPart p.claims b → IsNoPart p.header ⊎ IsNoPart p.claims → ⊥
neither p a b first second (inl none) = no_part p.header a first none
neither p a b first second (inr none) = no_part p.claims b second none

of_parts : (token : List ℕ) (a b : Result Svid JwtSvidError) (p : Parts) → AnswersParts token a p → AnswersParts token b p → a ≡ b
of_parts token a b p (inl h) (inl k) = h.1 ∙ sym k.1
of_parts token a b p (inl h) (inr k) = absurd (neither p k.0 k.1 k.2 k.3 h.0)
of_parts token a b p (inr h) (inl k) = absurd (neither p h.0 h.1 h.2 h.3 k.0)
of_parts token a b p (inr h) (inr k) =
    h.4 ∙ ap (λ header. svid_of token header h.1) (one_part p.header h.0 k.0 h.2 k.2)
    ∙ ap (λ claims. svid_of token k.0 claims) (one_part p.claims h.1 k.1 h.3 k.3) ∙ sym k.4

pub one_answer : (token : List ℕ) (a b : Result Svid JwtSvidError) (parts : Option Parts)
    → MatchOption parts (a ≡ Err InvalidJwtFormat) (AnswersParts token a) → MatchOption parts (b ≡ Err InvalidJwtFormat) (AnswersParts token b) → a ≡ b
one_answer token a b None first second = first ∙ sym second
one_answer token a b (Some p) first second = of_parts token a b p first second
