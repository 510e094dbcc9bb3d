-- Which document bytes are, and which document a bundle is.
use Rattle.std.specs.Prelude.{ℕ, List, map, filter, count_by, Option, Some, None, Result, Ok, Err, option_and_then, codes}
use Rattle.std.specs.List.{position_from}
use Rattle.std.specs.Map.{values_of}
use Rattle.serde_json.specs.Data.{Data, Items, null, boolean, number, string, array, object, put}
use Rattle.serde_json.specs.Find.{get, as_array, as_number, as_u64}
use Rattle.spiffe_id.specs.Rules.{map_ok, then_ok}
use Rattle.spiffe_json.specs.Json.{whole_json}
use Rattle.spiffe_json.specs.declared.error.JsonError.{JsonError}
use Rattle.spiffe_json.specs.declared.error.JsonError.TheVariants.{Keys}
use Rattle.spiffe_bundle.specs.JwtAuthority.{Authority}
use Rattle.spiffe_bundle.specs.JwtBundle.{Bundle}
use Rattle.bundle_document.specs.Keys.{elements, use_of, is_for_x509, is_for_neither, is_jwt_key, is_unnamed}
use Rattle.bundle_document.specs.DocumentError.{deserialized}
use Rattle.bundle_document.specs.Document.{Document, plain_document}
use Rattle.bundle_document.specs.declared.error.DocumentError.{DocumentError}
use Rattle.bundle_document.specs.declared.error.DocumentError.TheVariants.{Deserialize, Sequence, RefreshHint, MissingKeyId}

abbrev pub items_or : Option Items → Result Items DocumentError
items_or None = Err (Deserialize Keys)
items_or (Some items) = Ok items

-- the array `keys` of an object
abbrev pub items_in : Data → Result Items DocumentError
items_in d = items_or (option_and_then as_array (get (codes "keys") d))

-- its elements
abbrev pub keys_in : Data → Result (List Data) DocumentError
keys_in d = map_ok elements (items_in d)

abbrev pub whole_or : DocumentError → Option ℕ → Result (Option ℕ) DocumentError
whole_or broken None = Err broken
whole_or broken (Some n) = Ok (Some n)

-- the member, where there is one, as a number from 0 to 2^64 - 1
abbrev pub number_in : DocumentError → Option Data → Result (Option ℕ) DocumentError
number_in broken None = Ok None
number_in broken (Some d) = whole_or broken (option_and_then as_u64 (as_number d))

abbrev pub none_unnamed : Option ℕ → Result (Unit {0}) DocumentError
none_unnamed None = Ok tt
none_unnamed (Some key) = Err (MissingKeyId key)

-- each key for tokens has a key ID, or this is the first that has none, by its place among all elements
abbrev pub naming_of : List Data → Result (Unit {0}) DocumentError
naming_of keys = none_unnamed (position_from is_unnamed 0 keys)

-- the document of these elements: those that are for tokens, and how many there are of the others
abbrev pub document_with : Option ℕ → Option ℕ → List Data → Document
document_with sequence refresh_hint keys =
    plain_document sequence refresh_hint (count_by (λ d. is_for_x509 (use_of d)) keys) (count_by (λ d. is_for_neither (use_of d)) keys) (filter is_jwt_key keys)

-- the document that a value is, or the first rule that it breaks
abbrev pub document_in : Data → Result Document DocumentError
document_in d = then_ok (keys_in d) (λ keys. then_ok (number_in Sequence (get (codes "spiffe_sequence") d))
    (λ sequence. then_ok (number_in RefreshHint (get (codes "spiffe_refresh_hint") d))
    (λ refresh_hint. then_ok (naming_of keys) (λ _. Ok (document_with sequence refresh_hint keys)))))

-- the document that bytes are, or the first rule that they break
unfoldable pub document_of : List ℕ → Result Document DocumentError
document_of bytes = then_ok (deserialized (whole_json bytes)) document_in

-- an object with its use for tokens
abbrev pub for_tokens : Data → Data
for_tokens null = null
for_tokens (boolean b) = boolean b
for_tokens (number n) = number n
for_tokens (string s) = string s
for_tokens (array ds) = array ds
for_tokens (object ms) = object (put (codes "use") (string (codes "jwt-svid")) ms)

abbrev pub value_or_null : Result Data JsonError → Data
value_or_null (Ok d) = d
value_or_null (Err broken) = null

-- the key that an authority is in a document
abbrev pub key_of : Authority → Data
key_of a = for_tokens (value_or_null (whole_json a.jwk_json))

-- the document of a bundle: its authorities in ascending order of their key IDs
abbrev pub document_of_bundle : Option ℕ → Option ℕ → Bundle → Document
document_of_bundle sequence refresh_hint b = plain_document sequence refresh_hint 0 0 (map key_of (values_of b.authorities))
