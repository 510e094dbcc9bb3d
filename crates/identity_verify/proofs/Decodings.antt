-- The one answer to a text of base64url.
use Rattle.std.proofs.Common.{◌≡◌, ℕ, false, List, Option, Some, None, refl, ap}
use Rattle.base64_alphabets.specs.Url.{url_unpadded}
use Rattle.base64ct.specs.Canonical.{IsBytes, IsNoEncoding}
use Rattle.spiffe_token.specs.Parts.{base64url_text}
use Rattle.identity_verify.specs.Decoding.{IsDecoding}

module _ (decode : List ℕ → Option (List ℕ)) (h : IsDecoding decode) (text : List ℕ) where
  pub decodes : (v : List ℕ) → IsBytes v → text ≡ base64url_text v → ((b : List ℕ) → IsBytes b → text ≡ base64url_text b → v ≡ b) → Some v ≡ decode text
  decodes v octets encoded one = by_answer (decode text) refl
    where
      by_answer : (o : Option (List ℕ)) → decode text ≡ o → Some v ≡ o
      by_answer (Some b) e = ap Some (one b (h.octets text b e) (h.encoded text b e))
      by_answer None e = absurd (h.refused text e v octets encoded)

  pub refuses : IsNoEncoding url_unpadded text → None ≡ decode text
  refuses no_text = by_answer (decode text) refl
    where
      by_answer : (o : Option (List ℕ)) → decode text ≡ o → None ≡ o
      by_answer (Some b) e = absurd (no_text b (h.octets text b e) (h.encoded text b e))
      by_answer None e = refl
