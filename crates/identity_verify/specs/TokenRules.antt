-- The rules of a token's text, in their order.
use Rattle.std.specs.Prelude.{ℕ, ◌-◌, ◌&&◌, ℤ, pos, int_le, List, length, take, Bool, true, false, Result, Ok, Err, Option, Some, None, is_some, option_map}
use Rattle.std.specs.Prelude.{option_and_then, if◌then◌else◌}
use Rattle.std.specs.Option.{ok_or}
use Rattle.spiffe_id.specs.Rules.{map_ok, then_ok}
use Rattle.spiffe_json.specs.Json.{json_of}
use Rattle.spiffe_json.specs.declared.error.JsonError.{JsonError}
use Rattle.spiffe_json.specs.declared.error.JsonError.TheVariants.{Syntax, Number, Keys, Shape}
use Rattle.spiffe_token.specs.declared.error.JwtSvidError.TheVariants.{InvalidJwtFormat, InvalidBase64, InvalidJson}
use Rattle.spiffe_token.specs.JwtSvid.{Svid, svid_of}
use Rattle.spiffe_token.specs.Parts.{Parts, parts_of}
use Rattle.token_time.specs.Quiet.{quiet, not_before_of}
use Rattle.identity_verify.specs.declared.error.VerifyError.{VerifyError}
use Rattle.identity_verify.specs.declared.error.VerifyError.TheVariants.{InvalidVerificationTime, Token, InvalidNotBefore}
use Rattle.identity_verify.specs.VerifyError.{token_answer}
use Rattle.identity_verify.specs.Decoding.{decode_part}
use Rattle.identity_verify.specs.JoseHeader.{header_rule}

-- from 1970 to the end of the year 9999, in nanoseconds
abbrev pub time_rule : {E : Type 0} → ℤ → Result (Unit {0}) (VerifyError E)
time_rule now = if int_le (pos 0) now && int_le now (pos 253402300799999999999) then Ok tt else Err InvalidVerificationTime

-- what was signed: the bytes before the second dot
abbrev pub message_of : List ℕ → Parts → List ℕ
message_of token p = take (length token - length p.signature - 1) token

-- the bytes of a header and of claims
abbrev pub octets_of : (List ℕ → Option (List ℕ)) → Parts → Option (List ℕ × List ℕ)
octets_of decode p = option_and_then (λ header. option_map (λ claims. (header, claims)) (decode_part decode p.claims)) (decode_part decode p.header)

abbrev pub is_syntax : JsonError → Bool
is_syntax Syntax = true
is_syntax Number = false
is_syntax Keys = false
is_syntax Shape = false

-- the claims are JSON, whatever numbers stand in it
abbrev pub claims_rule : {E : Type 0} → List ℕ → Result (Unit {0}) (VerifyError E)
claims_rule claims = if is_some (json_of claims) then Ok tt else Err (Token (InvalidJson Syntax))

-- the token's value and its time `nbf` in nanoseconds, by its header and its claims, or the first rule that they break
unfoldable pub json_rules : {E : Type 0} → List ℕ → List ℕ → List ℕ → Result (Svid × Option ℤ) (VerifyError E)
json_rules token header claims =
    then_ok (header_rule header) (λ _. then_ok (claims_rule claims) (λ _. then_ok (token_answer (svid_of token header (quiet claims)))
    (λ svid. map_ok (λ t. (svid, t)) (ok_or (not_before_of claims) InvalidNotBefore))))

abbrev pub octets_rule : {E : Type 0} → List ℕ → Option (List ℕ × List ℕ) → Result (Svid × Option ℤ) (VerifyError E)
octets_rule token None = Err (Token InvalidBase64)
octets_rule token (Some p) = json_rules token p.0 p.1

-- the same, by its parts
unfoldable pub parts_rules : {E : Type 0} → (List ℕ → Option (List ℕ)) → List ℕ → Parts → Result (Svid × Option ℤ) (VerifyError E)
parts_rules decode token p = octets_rule token (octets_of decode p)

-- the parts of a token
abbrev pub text_rule : {E : Type 0} → List ℕ → Result Parts (VerifyError E)
text_rule token = ok_or (parts_of token) (Token InvalidJwtFormat)
