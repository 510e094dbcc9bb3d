-- Key sets (RFC 7517, section 5) as maps from key IDs to authorities.
use Rattle.std.specs.Prelude.{ℕ, List, [], ◌∷◌, fold, Result, Ok, Err, Option, None, Some, option_and_then, codes}
use Rattle.serde_json.specs.Data.{Data, Items, no_items, item}
use Rattle.serde_json.specs.Find.{get, as_array}
use Rattle.spiffe_id.specs.Rules.{map_ok, then_ok}
use Rattle.spiffe_json.specs.Json.{whole_json}
use Rattle.spiffe_json.specs.declared.error.JsonError.TheVariants.{Keys}
use Rattle.spiffe_bundle.specs.declared.error.JwtBundleError.{JwtBundleError}
use Rattle.spiffe_bundle.specs.declared.error.JwtBundleError.TheVariants.{Deserialize}
use Rattle.spiffe_bundle.specs.Entries.{Entries, with_entry, find_entry}
use Rattle.spiffe_bundle.specs.JwtBundleError.{deserialized}
use Rattle.spiffe_bundle.specs.JwtAuthority.{Authority, authority_of}

abbrev pub Authorities : Type 0
Authorities = Entries Authority

-- the map with the authority at its key ID, in place of what was there
abbrev pub with_authority : Authorities → Authority → Authorities
with_authority found a = with_entry found a.key_id a

abbrev pub find_authority : List ℕ → Authorities → Option Authority
find_authority key_id found = find_entry key_id found

-- the elements of a key set as authorities, or the first element that is none
abbrev pub authorities_of : Items → Result (List Authority) JwtBundleError
authorities_of no_items = Ok []
authorities_of (item d ds) = then_ok (authority_of d) (λ a. map_ok (λ more. a ∷ more) (authorities_of ds))

-- the authorities by their key IDs; of equal key IDs the last is kept
abbrev pub by_key_id : List Authority → Authorities
by_key_id authorities = fold with_authority [] authorities

abbrev pub keys_array : Option Items → Result Items JwtBundleError
keys_array None = Err (Deserialize Keys)
keys_array (Some items) = Ok items

-- the array `keys` of an object
abbrev pub keys_of : Data → Result Items JwtBundleError
keys_of d = keys_array (option_and_then as_array (get (codes "keys") d))

-- the map that a key set is, or the first rule that its bytes break
unfoldable pub key_set_of : List ℕ → Result Authorities JwtBundleError
key_set_of bytes = then_ok (deserialized (whole_json bytes)) (λ d. then_ok (keys_of d) (λ items. map_ok by_key_id (authorities_of items)))
