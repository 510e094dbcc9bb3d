-- Trust domains (SPIFFE-ID, section 2.1).
use Rattle.std.specs.Prelude.{◌≡◌, ◌≤◌, ◌<◌, ℕ, nat_lt, List, length, Bool, true, map, ◌||◌, ◌==◌, Result, Ok, Err, codes, is_some, if◌then◌else◌}
use Rattle.std.specs.List.{list_all, before_first}
use Rattle.std.specs.Char.{to_ascii_lowercase, is_ascii_alphanumeric}
use Rattle.spiffe_id.specs.Rules.{map_ok, then_ok}
use Rattle.spiffe_id.specs.Scheme.{split_first, after_scheme}
use Rattle.spiffe_id.specs.declared.error.SpiffeIdError.{SpiffeIdError}
use Rattle.spiffe_id.specs.declared.error.SpiffeIdError.TheVariants.{MissingTrustDomain, TrustDomainTooLong, BadTrustDomainChar, WrongScheme}

-- a character of a trust domain or of a path segment: an ASCII letter, a digit, `-`, `.` or `_`
abbrev pub is_name_byte : ℕ → Bool
is_name_byte b = is_ascii_alphanumeric b || b == 45 || b == 46 || b == 95

-- the slash that ends a trust domain and parts the segments of a path
abbrev pub is_slash : ℕ → Bool
is_slash b = b == 47

-- a trust domain as it is kept: 1 to 255 such characters, none of them in upper case
pub record IsTrustDomain (name : List ℕ) : Type 0 where
  pub some : 0 < length name
  pub short : length name ≤ 255
  pub characters : list_all is_name_byte name ≡ true
  pub lower : map to_ascii_lowercase name ≡ name

-- the first rule that a trust domain, as it is written, breaks
abbrev pub trust_domain_check : List ℕ → Result (Unit {0}) SpiffeIdError
trust_domain_check written =
    if length written == 0 then Err MissingTrustDomain
    else (if nat_lt 255 (length written) then Err (TrustDomainTooLong 255)
    else (if list_all is_name_byte written then Ok tt else Err BadTrustDomainChar))

abbrev pub checked_trust_domain : List ℕ → Result (List ℕ) SpiffeIdError
checked_trust_domain written = then_ok (trust_domain_check written) (λ _. Ok written)

abbrev pub contains_text : List ℕ → List ℕ → Bool
contains_text part text = is_some (split_first part text)

-- the trust domain that a text names, as it is written: of an id, what stands before the path
unfoldable pub written_trust_domain : List ℕ → Result (List ℕ) SpiffeIdError
written_trust_domain text =
    if contains_text (codes "://") text then then_ok (after_scheme text) (λ rest. checked_trust_domain (before_first is_slash rest))
    else (if contains_text (codes ":/") text then Err WrongScheme else checked_trust_domain text)

-- the trust domain that a text names, in lower case, or the first rule that the text breaks
unfoldable pub trust_domain_of : List ℕ → Result (List ℕ) SpiffeIdError
trust_domain_of text = map_ok (map to_ascii_lowercase) (written_trust_domain text)
