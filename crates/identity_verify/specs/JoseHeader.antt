-- A token's header (RFC 7515, section 4) in which nothing stands but what a JWT-SVID may have (JWT-SVID, section 2).
use Rattle.std.specs.Prelude.{ℕ, nat_eq, ◌&&◌, ◌||◌, List, Bool, true, false, Result, Ok, Err, Option, Some, None, is_some, codes, option_and_then}
use Rattle.std.specs.Prelude.{if◌then◌else◌}
use Rattle.std.specs.List.{list_all}
use Rattle.std.specs.Cmp.Lexicographic.{pointwise}
use Rattle.serde_json.specs.Data.{Data}
use Rattle.serde_json.specs.Find.{get, as_str}
use Rattle.spiffe_id.specs.Rules.{then_ok}
use Rattle.spiffe_json.specs.Json.{whole_json}
use Rattle.spiffe_json.specs.declared.error.JsonError.{JsonError}
use Rattle.spiffe_json.specs.declared.error.JsonError.TheVariants.{Shape}
use Rattle.spiffe_token.specs.Members.{Member, members_of}
use Rattle.spiffe_token.specs.Header.{stand_once, optional_text}
use Rattle.identity_verify.specs.declared.error.VerifyError.{VerifyError}
use Rattle.identity_verify.specs.declared.error.VerifyError.TheVariants.{InvalidJoseHeader}

abbrev pub is_header_name : Member → Bool
is_header_name m = pointwise nat_eq m.name (codes "alg") || (pointwise nat_eq m.name (codes "kid") || pointwise nat_eq m.name (codes "typ"))

-- the members are `alg`, `kid` and `typ`, none of them twice
abbrev pub has_few_members : Option (List Member) → Bool
has_few_members None = false
has_few_members (Some ms) = list_all is_header_name ms && stand_once (codes "alg") (codes "kid") (codes "typ") (Some ms)

abbrev pub is_absent_or_text : Option Data → Bool
is_absent_or_text None = true
is_absent_or_text (Some d) = is_some (as_str d)

-- an object with a text `alg`, whose `kid` is absent, null or a text and whose `typ` is absent or a text
abbrev pub has_header_values : Data → Bool
has_header_values d =
    is_some (option_and_then as_str (get (codes "alg") d)) && (is_some (optional_text (get (codes "kid") d)) && is_absent_or_text (get (codes "typ") d))

abbrev pub header_json : {E : Type 0} → Result Data JsonError → Result Data (VerifyError E)
header_json (Ok d) = Ok d
header_json (Err broken) = Err (InvalidJoseHeader broken)

abbrev pub header_shape : {E : Type 0} → Option (List Member) → Data → Result (Unit {0}) (VerifyError E)
header_shape members d = if has_few_members members && has_header_values d then Ok tt else Err (InvalidJoseHeader Shape)

-- whether bytes are such a header
unfoldable pub header_rule : {E : Type 0} → List ℕ → Result (Unit {0}) (VerifyError E)
header_rule bytes = then_ok (header_json (whole_json bytes)) (header_shape (members_of bytes))
