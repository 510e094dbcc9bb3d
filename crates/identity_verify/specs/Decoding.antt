-- Texts of base64url without padding (RFC 7515, section 2), each of which stands for bytes or for none.
use Rattle.std.specs.Prelude.{◌≡◌, ◌&&◌, ℕ, nat_eq, nat_lt, Bool, false, List, length, Option, Some, None, if◌then◌else◌}
use Rattle.std.specs.List.{list_all}
use Rattle.std.specs.Cmp.Lexicographic.{pointwise}
use Rattle.base64_alphabets.specs.Url.{url_unpadded}
use Rattle.base64ct.specs.Canonical.{IsBytes, IsNoEncoding, loose_bytes}
use Rattle.spiffe_token.specs.Parts.{base64url_text}

-- the function that gives for each text the bytes that it stands for
pub record IsDecoding (decode : List ℕ → Option (List ℕ)) : Type 0 where
  pub octets : (text bytes : List ℕ) → decode text ≡ Some bytes → IsBytes bytes
  pub encoded : (text bytes : List ℕ) → decode text ≡ Some bytes → text ≡ base64url_text bytes
  pub refused : (text : List ℕ) → decode text ≡ None → IsNoEncoding url_unpadded text

abbrev pub are_octets : List ℕ → Bool
are_octets bytes = list_all (λ b. nat_lt b 256) bytes

-- these bytes, where the text is their encoding
abbrev pub if_encoded : List ℕ → List ℕ → Option (List ℕ)
if_encoded text bytes = if are_octets bytes && pointwise nat_eq (base64url_text bytes) text then Some bytes else None

-- the bytes that a text stands for
abbrev pub base64url_octets : List ℕ → Option (List ℕ)
base64url_octets text = if_encoded text (loose_bytes url_unpadded text)

-- a header or claims have at most 87,381 characters
abbrev pub decode_part : (List ℕ → Option (List ℕ)) → List ℕ → Option (List ℕ)
decode_part decode part = if nat_lt 87381 (length part) then None else decode part
