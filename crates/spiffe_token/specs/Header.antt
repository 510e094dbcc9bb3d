-- The header of a token (RFC 7515, section 4; JWT-SVID, section 2).
use Rattle.std.specs.Prelude.{ℕ, nat_eq, nat_lt, ◌&&◌, ◌||◌, List, Bool, false, Result, Ok, Err, Option, Some, None, option_map, option_and_then, count_by}
use Rattle.std.specs.Prelude.{codes, if◌then◌else◌}
use Rattle.std.specs.Option.{ok_or}
use Rattle.std.specs.Cmp.Lexicographic.{pointwise}
use Rattle.serde_json.specs.Data.{Data, null, boolean, number, string, array, object}
use Rattle.serde_json.specs.Find.{get, as_str}
use Rattle.spiffe_id.specs.Rules.{map_ok, then_ok}
use Rattle.spiffe_json.specs.Json.{whole_json}
use Rattle.spiffe_json.specs.declared.error.JsonError.{JsonError}
use Rattle.spiffe_json.specs.declared.error.JsonError.TheVariants.{Shape}
use Rattle.spiffe_token.specs.declared.error.JwtSvidError.{JwtSvidError}
use Rattle.spiffe_token.specs.declared.error.JwtSvidError.TheVariants.{InvalidJson, InvalidTyp, UnsupportedAlgorithm, MissingKeyId}
use Rattle.spiffe_token.specs.declared.jwt_alg.JwtAlg.{JwtAlg}
use Rattle.spiffe_token.specs.Members.{Member, members_of}
use Rattle.spiffe_token.specs.JwtAlg.{alg_of}

pub record Header : Type 0 where
  pub alg : List ℕ
  pub typ : Option (List ℕ)
  pub kid : Option (List ℕ)

-- the value of a part, in which each number is whole
abbrev pub json_part : Result Data JsonError → Result Data JwtSvidError
json_part (Ok d) = Ok d
json_part (Err broken) = Err (InvalidJson broken)

-- at most one member has the name
abbrev pub is_once : List Member → List ℕ → Bool
is_once members name = nat_lt (count_by (λ m. pointwise nat_eq m.name name) members) 2

-- the text is an object in which each of three names stands at most once
abbrev pub stand_once : List ℕ → List ℕ → List ℕ → Option (List Member) → Bool
stand_once a b c None = false
stand_once a b c (Some members) = is_once members a && (is_once members b && is_once members c)

-- a member that is absent or null, or a text; any other is none
abbrev pub optional_text : Option Data → Option (Option (List ℕ))
optional_text None = Some None
optional_text (Some null) = Some None
optional_text (Some (string s)) = Some (Some s)
optional_text (Some (boolean b)) = None
optional_text (Some (number n)) = None
optional_text (Some (array ds)) = None
optional_text (Some (object ms)) = None

abbrev pub with_alg : Data → List ℕ → Option Header
with_alg d alg =
    option_and_then (λ typ. option_map (λ kid. record { alg = alg; typ = typ; kid = kid }) (optional_text (get (codes "kid") d)))
    (optional_text (get (codes "typ") d))

-- an object with a text `alg`, whose `typ` and `kid` are absent, null or a text
abbrev pub header_in : Data → Option Header
header_in d = option_and_then (with_alg d) (option_and_then as_str (get (codes "alg") d))

abbrev pub shaped : {A : Type 0} → Bool → Option A → Result A JwtSvidError
shaped once found = if once then ok_or found (InvalidJson Shape) else Err (InvalidJson Shape)

abbrev pub header_shape : Option (List Member) → Data → Result Header JwtSvidError
header_shape members d = shaped (stand_once (codes "alg") (codes "typ") (codes "kid") members) (header_in d)

-- the header that bytes are, or the first rule that they break
abbrev pub header_of : List ℕ → Result Header JwtSvidError
header_of bytes = then_ok (json_part (whole_json bytes)) (header_shape (members_of bytes))

-- a `typ` is `JWT` or `JOSE` (JWT-SVID, section 2.3)
abbrev pub typ_check : Option (List ℕ) → Result (Unit {0}) JwtSvidError
typ_check None = Ok tt
typ_check (Some typ) = if pointwise nat_eq typ (codes "JWT") || pointwise nat_eq typ (codes "JOSE") then Ok tt else Err InvalidTyp

-- the algorithm and the key ID that a header names, or the first rule that it breaks
abbrev pub key_of : Header → Result (JwtAlg × List ℕ) JwtSvidError
key_of h =
    then_ok (typ_check h.typ) (λ _. then_ok (ok_or (alg_of h.alg) UnsupportedAlgorithm) (λ alg. map_ok (λ kid. (alg, kid)) (ok_or h.kid MissingKeyId)))
