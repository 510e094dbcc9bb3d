-- What the verification of a token (JWT-SVID, section 4) answers: its value, or the first rule that breaks.
use Rattle.std.specs.Prelude.{◌≡◌, ◌⊎◌, ℕ, ℤ, pos, int_le, int_lt, ◌*ℤ◌, nat_eq, List, string_bytes, Bool, Result, Ok, Err, Option, Some, None, if◌then◌else◌}
use Rattle.std.specs.List.{list_any}
use Rattle.std.specs.Cmp.Lexicographic.{pointwise}
use Rattle.serde_json.specs.Data.{Data, null}
use Rattle.spiffe_id.specs.Rules.{map_ok, then_ok}
use Rattle.spiffe_json.specs.Json.{whole_json}
use Rattle.spiffe_json.specs.declared.error.JsonError.{JsonError}
use Rattle.spiffe_token.specs.declared.jwt_alg.JwtAlg.{JwtAlg}
use Rattle.spiffe_token.specs.JwtSvid.{Svid}
use Rattle.spiffe_bundle.specs.JwtAuthority.{Authority}
use Rattle.spiffe_bundle.specs.JwtBundle.{Bundle}
use Rattle.spiffe_bundle.specs.KeySet.{find_authority}
use Rattle.identity_verify.specs.declared.backend.Signature.{Signature}
use Rattle.identity_verify.specs.declared.backend.Signature.TheVariants.{Good, Bad, Unusable}
use Rattle.identity_verify.specs.declared.error.VerifyError.{VerifyError}
use Rattle.identity_verify.specs.declared.error.VerifyError.TheVariants.{BundleSourceError, BundleNotFound, AuthorityNotFound, InvalidToken, OutOfMemory}
use Rattle.identity_verify.specs.declared.error.JwtVerificationErrorKind.TheVariants.{Expired, NotYetValid, AudienceMismatch, InvalidSignature, Other}
use Rattle.spiffe_token.specs.Parts.{Parts}
use Rattle.identity_verify.specs.TokenRules.{time_rule, text_rule, parts_rules, message_of}
use Rattle.identity_verify.specs.Authority.{Rule, supported_rule, authority_rules}

-- a rule that breaks, or the key ID of which there is no authority
pub data Refusal (E : Type 0) : Type 0 where
  rule : VerifyError E → Refusal E
  unknown_authority : List ℕ → Refusal E

abbrev pub refusal_of : {E : Type 0} → VerifyError E → Refusal E
refusal_of (AuthorityNotFound key_id) = unknown_authority (string_bytes key_id)
refusal_of e = rule e

abbrev pub by_rule : {T E : Type 0} → Result T (VerifyError E) → Result T (Refusal E)
by_rule (Ok t) = Ok t
by_rule (Err e) = Err (refusal_of e)

-- the error is what the verdict names, or want of memory, which can come before the rules
abbrev pub IsVerifyRefusal : {T E : Type 0} → Result T (Refusal E) → VerifyError E → Type 0
IsVerifyRefusal verdict e = (verdict ≡ Err (refusal_of e)) ⊎ (e ≡ OutOfMemory)

-- the source has a bundle of the trust domain
abbrev pub bundle_rule : {E : Type 0} → List ℕ → Result (Option Bundle) E → Result Bundle (VerifyError E)
bundle_rule domain (Err e) = Err (BundleSourceError e)
bundle_rule domain (Ok None) = Err (BundleNotFound domain)
bundle_rule domain (Ok (Some b)) = Ok b

abbrev pub found_authority : {E : Type 0} → List ℕ → Option Authority → Result Authority (Refusal E)
found_authority key_id None = Err (unknown_authority key_id)
found_authority key_id (Some a) = Ok a

-- the bundle has an authority of the key ID
abbrev pub key_id_rule : {E : Type 0} → List ℕ → Bundle → Result Authority (Refusal E)
key_id_rule key_id b = found_authority key_id (find_authority key_id b.authorities)

-- the value that an authority's JSON is: it always reads
abbrev pub json_value : Result Data JsonError → Data
json_value (Ok d) = d
json_value (Err broken) = null

abbrev pub jwk_rules : {E : Type 0} → (List ℕ → Option (List ℕ)) → JwtAlg → List ℕ → Rule E
jwk_rules decode alg jwk_json = authority_rules decode alg (json_value (whole_json jwk_json))

abbrev pub judged : {E : Type 0} → Signature → Rule E
judged Good = Ok tt
judged Bad = Err (InvalidToken InvalidSignature)
judged Unusable = Err (InvalidToken Other)

-- the backend finds the signature good
abbrev pub signature_rule : {E : Type 0} → (List ℕ → Signature) → Option (List ℕ) → Rule E
signature_rule judge None = Err (InvalidToken Other)
signature_rule judge (Some signature) = judged (judge signature)

abbrev pub is_expected : List (List ℕ) → List ℕ → Bool
is_expected expected audience = list_any (λ e. pointwise nat_eq e audience) expected

abbrev pub has_audience : List (List ℕ) → List (List ℕ) → Bool
has_audience expected audiences = list_any (is_expected expected) audiences

-- some audience of the token is among the expected ones
abbrev pub audience_rule : {E : Type 0} → List (List ℕ) → List (List ℕ) → Rule E
audience_rule expected audiences =
    if has_audience expected audiences then Ok tt else Err (InvalidToken AudienceMismatch)

abbrev pub begin_rule : {E : Type 0} → ℤ → Option ℤ → Rule E
begin_rule now None = Ok tt
begin_rule now (Some begins) = if int_lt now begins then Err (InvalidToken NotYetValid) else Ok tt

-- the time, in nanoseconds, is before the token's `exp`, which is in seconds, and not before its `nbf`
abbrev pub window_rule : {E : Type 0} → ℤ → ℤ → Option ℤ → Rule E
window_rule now exp begins = if int_le (exp *ℤ pos 1000000000) now then Err (InvalidToken Expired) else begin_rule now begins

-- a backend's answer to an algorithm, an authority's JSON, a message and a signature
abbrev pub Judge : Type 0
Judge = JwtAlg → List ℕ → List ℕ → List ℕ → Signature

-- the audiences and the times of a token
abbrev pub claims_rules : {E : Type 0} → List (List ℕ) → ℤ → Svid → Option ℤ → Rule E
claims_rules expected now svid begins = then_ok (audience_rule expected svid.claims.aud) (λ _. window_rule now svid.claims.exp begins)

-- the authority is a key that made the signature of the message
unfoldable pub signed_rules : {E : Type 0} → (List ℕ → Option (List ℕ)) → Judge → Authority → JwtAlg → List ℕ → List ℕ → Rule E
signed_rules decode judge a alg message signature =
    then_ok (jwk_rules decode alg a.jwk_json) (λ _. signature_rule (judge alg a.jwk_json message) (decode signature))

-- the authority that a token names
unfoldable pub authority_for : {E : Type 0} → (List ℕ → Result (Option Bundle) E) → Svid → Result Authority (Refusal E)
authority_for source svid =
    then_ok (by_rule (supported_rule svid.alg)) (λ _. then_ok (by_rule (bundle_rule svid.spiffe_id.trust_domain (source svid.spiffe_id.trust_domain)))
    (key_id_rule svid.key_id))

unfoldable pub parts_verdict : {E : Type 0} → (List ℕ → Option (List ℕ)) → (List ℕ → Result (Option Bundle) E) → Judge → List ℕ → List (List ℕ) → ℤ → Parts
    → Result Svid (Refusal E)
parts_verdict decode source judge token expected now parts =
    then_ok (by_rule (parts_rules decode token parts)) (λ p. then_ok (authority_for source p.0)
    (λ a. then_ok (by_rule (signed_rules decode judge a p.0.alg (message_of token parts) parts.signature))
    (λ _. map_ok (λ _. p.0) (by_rule (claims_rules expected now p.0 p.1)))))

-- the verdict on a token by the bundles of a source and the answers of a backend
unfoldable pub verdict : {E : Type 0} → (List ℕ → Option (List ℕ)) → (List ℕ → Result (Option Bundle) E) → Judge → List ℕ → List (List ℕ) → ℤ
    → Result Svid (Refusal E)
verdict decode source judge token expected now =
    then_ok (by_rule (time_rule now)) (λ _. then_ok (by_rule (text_rule token)) (parts_verdict decode source judge token expected now))
