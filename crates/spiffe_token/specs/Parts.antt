-- The parts of a token (RFC 7515, section 3.1): a header, claims and a signature, with dots between them.
use Rattle.std.specs.Prelude.{◌≡◌, ℕ, ◌≤◌, ◌<◌, ◌==◌, nat_lt, ◌⊎◌, List, length, Bool, false, Option, Some, None, option_and_then, is_some, if◌then◌else◌}
use Rattle.std.specs.List.{position_or_len, before_first, after_first}
use Rattle.base64_alphabet.specs.Encoding.{encoding_of}
use Rattle.base64_alphabets.specs.Url.{url_unpadded}
use Rattle.base64ct.specs.Canonical.{IsBytes, IsNoEncoding}
use Rattle.spiffe_token.specs.declared.parts.Parts as program

abbrev pub is_dot : ℕ → Bool
is_dot b = b == 46

-- what stands before and after the first dot
abbrev pub cut : List ℕ → Option (List ℕ × List ℕ)
cut text = if nat_lt (position_or_len is_dot text) (length text) then Some (before_first is_dot text, after_first is_dot text) else None

-- the parts as they are written
pub record Parts : Type 0 where
  pub header : List ℕ
  pub claims : List ℕ
  pub signature : List ℕ

abbrev pub parts_value : program.Parts → Parts
parts_value p = record { header = p.header.now; claims = p.claims.now; signature = p.signature.now }

abbrev pub unless_dotted : List ℕ → List ℕ × List ℕ → Option Parts
unless_dotted header p = if is_some (cut p.1) then None else Some record { header = header; claims = p.0; signature = p.1 }

-- the parts of a text with exactly two dots
abbrev pub parts_of : List ℕ → Option Parts
parts_of text = option_and_then (λ p. option_and_then (unless_dotted p.0) (cut p.1)) (cut text)

-- bytes in the alphabet for URLs and file names, without padding (RFC 7515, section 2)
abbrev pub base64url_text : List ℕ → List ℕ
base64url_text bytes = encoding_of url_unpadded bytes

-- a part stands for bytes: it has at most 87,381 characters and is the bytes' text
pub record IsPart (part bytes : List ℕ) : Type 0 where
  pub short : length part ≤ 87381
  pub octets : IsBytes bytes
  pub encoded : part ≡ base64url_text bytes

-- a part that stands for none
abbrev pub IsNoPart : List ℕ → Type 0
IsNoPart part = (87381 < length part) ⊎ IsNoEncoding url_unpadded part
