-- What a bundle document says (SPIFFE Trust Domain and Bundle, section 4).
use Rattle.std.specs.Prelude.{◌≡◌, ◌≤◌, ℕ, List, [], ◌++◌, map, Bool, true, false, Option, Some, None, Result, Ok, unwrap_or, option_map, option_and_then}
use Rattle.std.specs.Prelude.{codes, decimal}
use Rattle.std.specs.List.{list_all, join_with_byte}
use Rattle.serde_json.specs.Data.{Data, depth, null, boolean, number, string, array, object, unsigned, put}
use Rattle.serde_json.specs.Find.{get, as_array}
use Rattle.serde_json.specs.Read.{max_depth}
use Rattle.serde_json.specs.View.{items_of}
use Rattle.serde_json.specs.Written.{items_have_float}
use Rattle.spiffe_json.specs.Json.{whole_json}
use Rattle.spiffe_bundle.specs.JwtAuthority.{Authority}
use Rattle.bundle_document.specs.Keys.{elements, key_set_value, is_jwt_key, is_named, named_authority}

-- its sequence number and its refresh hint in seconds, how many keys it had for X.509 and how many for no use that
-- is known, its keys for tokens in their order, each with its key ID and its compact JSON, and how deep their key
-- set nests
pub record Document : Type 0 where
  pub sequence : Option ℕ
  pub refresh_hint : Option ℕ
  pub x509_count : ℕ
  pub ignored_count : ℕ
  pub keys : List Authority
  pub nesting : ℕ

-- the document with these numbers and these keys for tokens
abbrev pub plain_document : Option ℕ → Option ℕ → ℕ → ℕ → List Data → Document
plain_document sequence refresh_hint x509_count ignored_count keys = record {
  sequence = sequence;
  refresh_hint = refresh_hint;
  x509_count = x509_count;
  ignored_count = ignored_count;
  keys = map named_authority keys;
  nesting = depth (key_set_value keys);
}

-- its key set nests no deeper than JSON is read
abbrev pub IsReadable : Document → Type 0
IsReadable d = d.nesting ≤ max_depth

-- the elements of a key set: their compact JSON, joined by commas
abbrev pub keys_text : List Authority → List ℕ
keys_text keys = codes "[" ++ (join_with_byte 44 (map (λ a. a.jwk_json) keys) ++ codes "]")

-- the compact JSON of a key set (RFC 7517, section 5) of these keys
abbrev pub key_set_text : List Authority → List ℕ
key_set_text keys = codes "{\"keys\":" ++ (keys_text keys ++ codes "}")

-- a member with a number behind others, where there is a number
abbrev pub number_text : List ℕ → Option ℕ → List ℕ
number_text name None = []
number_text name (Some n) = codes ",\"" ++ (name ++ (codes "\":" ++ decimal n))

-- the compact JSON of a document: its keys for tokens, and its numbers
abbrev pub document_text : Document → List ℕ
document_text d = codes "{\"keys\":" ++ (keys_text d.keys ++
    (number_text (codes "spiffe_refresh_hint") d.refresh_hint ++ (number_text (codes "spiffe_sequence") d.sequence ++ codes "}")))

-- the keys of a key set's value
abbrev pub keys_listed : Data → List Data
keys_listed d = unwrap_or (option_map elements (option_and_then as_array (get (codes "keys") d))) []

-- an object with a number at this name, where there is a number
abbrev pub with_number : List ℕ → Option ℕ → Data → Data
with_number name None d = d
with_number name (Some n) null = null
with_number name (Some n) (boolean b) = boolean b
with_number name (Some n) (number m) = number m
with_number name (Some n) (string s) = string s
with_number name (Some n) (array ds) = array ds
with_number name (Some n) (object ms) = object (put name (number (unsigned n)) ms)

-- a key set with the numbers of a document beside it
abbrev pub numbered : Option ℕ → Option ℕ → Data → Data
numbered sequence refresh_hint d = with_number (codes "spiffe_sequence") sequence (with_number (codes "spiffe_refresh_hint") refresh_hint d)

-- what holds of each document: its keys are for tokens, have key IDs and no number that isn't whole, and its key set is their compact JSON, which
-- reads as their value
pub record IsDocument (keys : List Data) (jwks : List ℕ) : Type 0 where
  pub whole : items_have_float (items_of keys) ≡ false
  pub jwt : list_all is_jwt_key keys ≡ true
  pub named : list_all is_named keys ≡ true
  pub text : jwks ≡ key_set_text (map named_authority keys)
  pub reads : depth (key_set_value keys) ≤ max_depth → whole_json jwks ≡ Ok (key_set_value keys)
