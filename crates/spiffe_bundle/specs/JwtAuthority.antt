-- Authorities: the JSON of a key with a key ID (RFC 7517, section 4).
use Rattle.std.specs.Prelude.{◌≡◌, ℕ, nat_eq, List, Bool, Result, Ok, Err, Option, Some, None, option_and_then, codes}
use Rattle.std.specs.Ordering.{on, eq_of_both}
use Rattle.std.specs.Cmp.{IsEquivalence, and_equiv, on_equiv}
use Rattle.std.specs.Cmp.Lexicographic.{pointwise, nat_list_eq_equiv}
use Rattle.serde_json.specs.Data.{Data}
use Rattle.serde_json.specs.Find.{get, as_str}
use Rattle.serde_json.specs.Written.{compact_text}
use Rattle.spiffe_id.specs.Rules.{then_ok}
use Rattle.spiffe_json.specs.Json.{whole_json}
use Rattle.spiffe_bundle.specs.declared.error.JwtBundleError.{JwtBundleError}
use Rattle.spiffe_bundle.specs.declared.error.JwtBundleError.TheVariants.{MissingKeyId}
use Rattle.spiffe_bundle.specs.JwtBundleError.{deserialized}

pub record Authority : Type 0 where
  pub key_id : List ℕ
  pub jwk_json : List ℕ

-- the text `kid` of an object (RFC 7517, section 4.5)
abbrev pub key_id_of : Data → Option (List ℕ)
key_id_of d = option_and_then as_str (get (codes "kid") d)

abbrev pub with_key_id : Data → Option (List ℕ) → Result Authority JwtBundleError
with_key_id d None = Err MissingKeyId
with_key_id d (Some key_id) = Ok record { key_id = key_id; jwk_json = compact_text d }

-- the authority that a value is: its key ID, and its JSON without blanks, in which names ascend
abbrev pub authority_of : Data → Result Authority JwtBundleError
authority_of d = with_key_id d (key_id_of d)

-- the authority that bytes are, or the first rule that they break
unfoldable pub jwk_of : List ℕ → Result Authority JwtBundleError
jwk_of bytes = then_ok (deserialized (whole_json bytes)) authority_of

-- what holds of every authority: its JSON reads as a value with its key ID, of which it is the compact text
pub record IsJwk (key_id jwk_json : List ℕ) : Type 0 where
  pub value : Data
  pub reads : whole_json jwk_json ≡ Ok value
  pub named : key_id_of value ≡ Some key_id
  pub compact : jwk_json ≡ compact_text value

abbrev pub authority_eq : Authority → Authority → Bool
authority_eq = eq_of_both (on (λ a. a.key_id) (pointwise nat_eq)) (on (λ a. a.jwk_json) (pointwise nat_eq))

pub authority_equiv : IsEquivalence authority_eq
authority_equiv = and_equiv (on_equiv (λ a. a.key_id) nat_list_eq_equiv) (on_equiv (λ a. a.jwk_json) nat_list_eq_equiv)
