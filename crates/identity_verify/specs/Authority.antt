-- The rules of an authority's JSON (RFC 7517, section 4), for a token of an algorithm.
use Rattle.std.specs.Prelude.{ℕ, nat_eq, nat_lt, ◌+◌, ◌-◌, ◌*◌, ◌==◌, ◌||◌, ◌&&◌, not, List, [], ◌∷◌, length, Bool, true, false, Result, Ok, Err, Option, Some}
use Rattle.std.specs.Prelude.{None, is_some, option_and_then, codes, if◌then◌else◌}
use Rattle.std.specs.Option.{ok_or}
use Rattle.std.specs.List.{list_any}
use Rattle.std.specs.Int.{leading_zeros, w8}
use Rattle.std.specs.Cmp.Lexicographic.{pointwise}
use Rattle.serde_json.specs.Data.{Data}
use Rattle.serde_json.specs.Find.{get, as_str, as_array}
use Rattle.spiffe_id.specs.Rules.{then_ok}
use Rattle.spiffe_token.specs.Claims.{texts_of}
use Rattle.spiffe_token.specs.declared.jwt_alg.JwtAlg.{JwtAlg}
use Rattle.spiffe_token.specs.declared.jwt_alg.JwtAlg.TheVariants.{RS256, RS384, RS512, ES256, ES384, ES512, PS256, PS384, PS512}
use Rattle.spiffe_token.specs.JwtAlg.{alg_or, alg_eq}
use Rattle.identity_verify.specs.declared.error.Field.{Field}
use Rattle.identity_verify.specs.declared.error.Field.TheVariants.{Alg, Use, KeyOps, Kty, Crv, X, Y, N, E as Exponent}
use Rattle.identity_verify.specs.declared.error.VerifyError.{VerifyError}
use Rattle.identity_verify.specs.declared.error.VerifyError.TheVariants.{BackendUnsupportedAlgorithm, InvalidAuthorityMetadata, AuthorityAlgorithmMismatch}
use Rattle.identity_verify.specs.declared.error.VerifyError.TheVariants.{UnsupportedAuthorityPurpose, AuthorityVerificationNotPermitted}
use Rattle.identity_verify.specs.declared.error.VerifyError.TheVariants.{AuthorityCurveMismatch, InvalidAuthorityKeyComponent, NonCanonicalRsaComponent}
use Rattle.identity_verify.specs.declared.error.VerifyError.TheVariants.{WeakRsaAuthority}

abbrev pub is_text : List ℕ → List ℕ → Bool
is_text = pointwise nat_eq

abbrev pub Rule : Type 0 → Type 0
Rule E = Result (Unit {0}) (VerifyError E)

-- tokens of ES512 aren't verified
abbrev pub supported_rule : {E : Type 0} → JwtAlg → Rule E
supported_rule alg = if alg_eq alg ES512 then Err (BackendUnsupportedAlgorithm ES512) else Ok tt

-- the algorithm of that name, but for ES512
unfoldable pub authority_alg : List ℕ → Option JwtAlg
authority_alg name =
    alg_or RS256 (alg_or RS384 (alg_or RS512 (alg_or ES256 (alg_or ES384 (alg_or PS256 (alg_or PS384 (alg_or PS512 None name) name) name) name) name) name)
    name) name

abbrev pub same_alg : {E : Type 0} → JwtAlg → Option JwtAlg → Rule E
same_alg token None = Err (InvalidAuthorityMetadata Alg)
same_alg token (Some authority) = if alg_eq authority token then Ok tt else Err (AuthorityAlgorithmMismatch authority token)

-- `alg` (section 4.4) is absent, or is the token's
abbrev pub alg_rule : {E : Type 0} → JwtAlg → Option Data → Rule E
alg_rule token None = Ok tt
alg_rule token (Some d) = same_alg token (option_and_then authority_alg (as_str d))

abbrev pub purpose_rule : {E : Type 0} → Option (List ℕ) → Rule E
purpose_rule None = Err (InvalidAuthorityMetadata Use)
purpose_rule (Some purpose) = if is_text purpose (codes "sig") || is_text purpose (codes "jwt-svid") then Ok tt else Err UnsupportedAuthorityPurpose

-- `use` (section 4.2) is absent, `sig` or `jwt-svid`
abbrev pub use_rule : {E : Type 0} → Option Data → Rule E
use_rule None = Ok tt
use_rule (Some d) = purpose_rule (as_str d)

abbrev pub stands_in : List (List ℕ) → List ℕ → Bool
stands_in texts text = list_any (λ t. is_text t text) texts

abbrev pub has_repeats : List (List ℕ) → Bool
has_repeats [] = false
has_repeats (t ∷ ts) = stands_in ts t || has_repeats ts

-- an operation that no key for signatures is meant for
abbrev pub is_of_encryption : List ℕ → Bool
is_of_encryption op =
    is_text op (codes "encrypt") || (is_text op (codes "decrypt") || (is_text op (codes "wrapKey") || (is_text op (codes "unwrapKey")
    || (is_text op (codes "deriveKey") || is_text op (codes "deriveBits")))))

abbrev pub operations_rule : {E : Type 0} → Bool → Option (List (List ℕ)) → Rule E
operations_rule has_use None = Err (InvalidAuthorityMetadata KeyOps)
operations_rule has_use (Some ops) =
    if has_repeats ops || (has_use && list_any is_of_encryption ops) then Err (InvalidAuthorityMetadata KeyOps)
    else (if stands_in ops (codes "verify") then Ok tt else Err AuthorityVerificationNotPermitted)

-- `key_ops` (section 4.3) is absent, or texts without repeats that agree with `use` and among which `verify` stands
abbrev pub key_ops_rule : {E : Type 0} → Bool → Option Data → Rule E
key_ops_rule has_use None = Ok tt
key_ops_rule has_use (Some d) = operations_rule has_use (option_and_then texts_of (as_array d))

-- what a key may be used for
unfoldable pub use_rules : {E : Type 0} → JwtAlg → Data → Rule E
use_rules alg d =
    then_ok (alg_rule alg (get (codes "alg") d)) (λ _. then_ok (use_rule (get (codes "use") d))
    (λ _. key_ops_rule (is_some (get (codes "use") d)) (get (codes "key_ops") d)))

-- a member that must be a text
abbrev pub text_rule : {E : Type 0} → Field → Option Data → Result (List ℕ) (VerifyError E)
text_rule field member = ok_or (option_and_then as_str member) (InvalidAuthorityMetadata field)

-- a text that must stand for bytes
abbrev pub octets_rule : {E : Type 0} → Field → Option (List ℕ) → Result (List ℕ) (VerifyError E)
octets_rule field octets = ok_or octets (InvalidAuthorityKeyComponent field)

abbrev pub component : {E : Type 0} → (List ℕ → Option (List ℕ)) → Field → Option Data → Result (List ℕ) (VerifyError E)
component decode field member = then_ok (text_rule field member) (λ text. octets_rule field (decode text))

-- `kty` (section 4.1) is this text
abbrev pub key_type_rule : {E : Type 0} → List ℕ → Option Data → Rule E
key_type_rule type member = then_ok (text_rule Kty member) (λ text. if is_text text type then Ok tt else Err (InvalidAuthorityMetadata Kty))

abbrev pub is_curve : List ℕ → Bool
is_curve text = is_text text (codes "P-256") || (is_text text (codes "P-384") || (is_text text (codes "P-521") || is_text text (codes "Ed25519")))

-- the curve and the bytes of a coordinate, for a token of ES384 or of ES256
abbrev pub curve_of : Bool → List ℕ
curve_of is_384 = if is_384 then codes "P-384" else codes "P-256"

abbrev pub size_of : Bool → ℕ
size_of is_384 = if is_384 then 48 else 32

abbrev pub curve_rule : {E : Type 0} → JwtAlg → Bool → Option Data → Rule E
curve_rule alg is_384 member = then_ok (text_rule Crv member) (λ text. if not (is_curve text) then Err (InvalidAuthorityMetadata Crv)
    else (if is_text text (curve_of is_384) then Ok tt else Err (AuthorityCurveMismatch alg)))

abbrev pub coordinate_rule : {E : Type 0} → (List ℕ → Option (List ℕ)) → ℕ → Field → Option Data → Rule E
coordinate_rule decode size field member =
    then_ok (component decode field member) (λ octets. if length octets == size then Ok tt else Err (InvalidAuthorityKeyComponent field))

-- a key on a curve (RFC 7518, section 6.2)
unfoldable pub curve_key_rules : {E : Type 0} → (List ℕ → Option (List ℕ)) → JwtAlg → Bool → Data → Rule E
curve_key_rules decode alg is_384 d =
    then_ok (key_type_rule (codes "EC") (get (codes "kty") d)) (λ _. then_ok (curve_rule alg is_384 (get (codes "crv") d))
    (λ _. then_ok (coordinate_rule decode (size_of is_384) X (get (codes "x") d)) (λ _. coordinate_rule decode (size_of is_384) Y (get (codes "y") d))))

-- the bytes of a number of an RSA key: some, and no more than it needs
abbrev pub rsa_octets : {E : Type 0} → Field → List ℕ → Result (List ℕ) (VerifyError E)
rsa_octets field [] = Err (InvalidAuthorityKeyComponent field)
rsa_octets field (b ∷ []) = if b == 0 then Err (InvalidAuthorityKeyComponent field) else Ok (b ∷ [])
rsa_octets field (b ∷ c ∷ more) = if b == 0 then Err (NonCanonicalRsaComponent field) else Ok (b ∷ c ∷ more)

abbrev pub rsa_component : {E : Type 0} → (List ℕ → Option (List ℕ)) → Field → Option Data → Result (List ℕ) (VerifyError E)
rsa_component decode field member = then_ok (component decode field member) (rsa_octets field)

-- the bits of a number, the highest byte first, from the first that is set
abbrev pub bits_of : List ℕ → ℕ
bits_of [] = 0
bits_of (b ∷ bs) = 8 * length bs + (8 - leading_zeros w8 b)

-- 2,048 bits at least
abbrev pub strength_rule : {E : Type 0} → List ℕ → Rule E
strength_rule modulus = if nat_lt (bits_of modulus) 2048 then Err (WeakRsaAuthority (bits_of modulus)) else Ok tt

-- an RSA key (RFC 7518, section 6.3)
unfoldable pub rsa_key_rules : {E : Type 0} → (List ℕ → Option (List ℕ)) → Data → Rule E
rsa_key_rules decode d =
    then_ok (key_type_rule (codes "RSA") (get (codes "kty") d)) (λ _. then_ok (rsa_component decode N (get (codes "n") d))
    (λ modulus. then_ok (rsa_component decode Exponent (get (codes "e") d)) (λ _. strength_rule modulus)))

-- a key of the algorithm's kind
abbrev pub key_rules : {E : Type 0} → (List ℕ → Option (List ℕ)) → JwtAlg → Data → Rule E
key_rules decode ES256 d = curve_key_rules decode ES256 false d
key_rules decode ES384 d = curve_key_rules decode ES384 true d
key_rules decode ES512 d = rsa_key_rules decode d
key_rules decode RS256 d = rsa_key_rules decode d
key_rules decode RS384 d = rsa_key_rules decode d
key_rules decode RS512 d = rsa_key_rules decode d
key_rules decode PS256 d = rsa_key_rules decode d
key_rules decode PS384 d = rsa_key_rules decode d
key_rules decode PS512 d = rsa_key_rules decode d

-- an authority whose JSON is this, for a token of this algorithm
unfoldable pub authority_rules : {E : Type 0} → (List ℕ → Option (List ℕ)) → JwtAlg → Data → Rule E
authority_rules decode alg d = then_ok (use_rules alg d) (λ _. key_rules decode alg d)
