-- The claims of a token (RFC 7519, section 4.1; JWT-SVID, section 3).
use Rattle.std.specs.Prelude.{ℕ, ℤ, pos, negsuc, int_le, nat_eq, nat_le, ◌&&◌, List, [], ◌∷◌, length, Bool, Result, Option, Some, None, option_map}
use Rattle.std.specs.Prelude.{option_and_then, codes, if◌then◌else◌}
use Rattle.std.specs.Ordering.{on, eq_of_both, int_eq}
use Rattle.std.specs.Cmp.{IsEquivalence, and_equiv, on_equiv, int_eq_equiv}
use Rattle.std.specs.Cmp.Lexicographic.{pointwise, nat_list_eq_equiv, lists_equiv}
use Rattle.serde_json.specs.Data.{Data, null, boolean, number, string, array, object, Items, no_items, item}
use Rattle.serde_json.specs.Find.{get, as_str, as_number, as_i64}
use Rattle.spiffe_id.specs.Rules.{then_ok}
use Rattle.spiffe_json.specs.Json.{whole_json}
use Rattle.spiffe_token.specs.declared.error.JwtSvidError.{JwtSvidError}
use Rattle.spiffe_token.specs.Members.{Member, members_of}
use Rattle.spiffe_token.specs.Header.{json_part, stand_once, shaped}

pub record ClaimsSet : Type 0 where
  pub sub : List ℕ
  pub aud : List (List ℕ)
  pub exp : ℤ

abbrev pub texts_of : Items → Option (List (List ℕ))
texts_of no_items = Some []
texts_of (item d ds) = option_and_then (λ text. option_map (λ more. text ∷ more) (texts_of ds)) (as_str d)

-- 1 to 32 audiences
abbrev pub if_few : List (List ℕ) → Option (List (List ℕ))
if_few texts = if nat_le 1 (length texts) && nat_le (length texts) 32 then Some texts else None

-- the audiences: an array of texts, or a text, which is a list of one (RFC 7519, section 4.1.3)
abbrev pub audience_of : Data → Option (List (List ℕ))
audience_of (string s) = Some (s ∷ [])
audience_of (array ds) = option_and_then if_few (texts_of ds)
audience_of null = None
audience_of (boolean b) = None
audience_of (number n) = None
audience_of (object ms) = None

abbrev pub with_audience : Data → List ℕ → List (List ℕ) → Option ClaimsSet
with_audience d sub aud = option_map (λ exp. record { sub = sub; aud = aud; exp = exp })
    (option_and_then as_i64 (option_and_then as_number (get (codes "exp") d)))

abbrev pub with_subject : Data → List ℕ → Option ClaimsSet
with_subject d sub = option_and_then (with_audience d sub) (option_and_then audience_of (get (codes "aud") d))

-- an object with a text `sub`, audiences `aud` and a whole number `exp` of 64 bits with a sign
abbrev pub claims_in : Data → Option ClaimsSet
claims_in d = option_and_then (with_subject d) (option_and_then as_str (get (codes "sub") d))

abbrev pub claims_shape : Option (List Member) → Data → Result ClaimsSet JwtSvidError
claims_shape members d = shaped (stand_once (codes "sub") (codes "aud") (codes "exp") members) (claims_in d)

-- the claims that bytes are, or the first rule that they break
abbrev pub claims_of : List ℕ → Result ClaimsSet JwtSvidError
claims_of bytes = then_ok (json_part (whole_json bytes)) (claims_shape (members_of bytes))

-- a time in seconds from 1970 on, of the years -9999 to 9999
abbrev pub is_expiry : ℤ → Bool
is_expiry exp = int_le (negsuc 377705116799) exp && int_le exp (pos 253402300799)

abbrev pub claims_eq : ClaimsSet → ClaimsSet → Bool
claims_eq = eq_of_both (on (λ c. c.sub) (pointwise nat_eq)) (eq_of_both (on (λ c. c.aud) (pointwise (pointwise nat_eq))) (on (λ c. c.exp) int_eq))

pub claims_equiv : IsEquivalence claims_eq
claims_equiv =
    and_equiv (on_equiv (λ c. c.sub) nat_list_eq_equiv) (and_equiv (on_equiv (λ c. c.aud) (lists_equiv nat_list_eq_equiv)) (on_equiv (λ c. c.exp) int_eq_equiv))
