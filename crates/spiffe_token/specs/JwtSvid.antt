-- Tokens of the Workload API (JWT-SVID, sections 2 to 4): what a text stands for, or the first rule that it breaks.
use Rattle.std.specs.Prelude.{◌≡◌, ℕ, ℤ, nat_eq, ◌⊎◌, List, ◌++◌, Bool, true, Result, Ok, Err, Option, None, codes, if◌then◌else◌}
use Rattle.std.specs.Ordering.{on, eq_of_both}
use Rattle.std.specs.Option.{option_eq, MatchOption}
use Rattle.std.specs.Cmp.{IsEquivalence, and_equiv, on_equiv}
use Rattle.std.specs.Cmp.Lexicographic.{pointwise, nat_list_eq_equiv, options_equiv}
use Rattle.std.specs.Fmt.{decimal, signed_decimal}
use Rattle.spiffe_id.specs.Rules.{then_ok}
use Rattle.spiffe_id.specs.SpiffeId.{Id, id_of, id_eq, id_text}
use Rattle.spiffe_id.specs.declared.error.SpiffeIdError.{SpiffeIdError}
use Rattle.spiffe_token.specs.declared.error.JwtSvidError.{JwtSvidError}
use Rattle.spiffe_token.specs.declared.error.JwtSvidError.TheVariants.{InvalidExpiration, InvalidJwtFormat, InvalidBase64}
use Rattle.spiffe_token.specs.declared.jwt_alg.JwtAlg.{JwtAlg}
use Rattle.spiffe_token.specs.JwtSvidError.{subject_error}
use Rattle.spiffe_token.specs.JwtAlg.{alg_name, alg_eq, alg_equiv}
use Rattle.spiffe_token.specs.Header.{Header, header_of, key_of}
use Rattle.spiffe_token.specs.Claims.{ClaimsSet, claims_of, is_expiry, claims_eq, claims_equiv}
use Rattle.spiffe_token.specs.Parts.{Parts, parts_of, IsPart, IsNoPart}

pub record Svid : Type 0 where
  pub token : List ℕ
  pub spiffe_id : Id
  pub claims : ClaimsSet
  pub key_id : List ℕ
  pub alg : JwtAlg
  pub hint : Option (List ℕ)

abbrev pub subject_of : Result Id SpiffeIdError → Result Id JwtSvidError
subject_of (Ok id) = Ok id
subject_of (Err cause) = Err (subject_error cause)

abbrev pub with_key : List ℕ → ClaimsSet → JwtAlg × List ℕ → Id → Result Svid JwtSvidError
with_key token c key id =
    if is_expiry c.exp then Ok record { token = token; spiffe_id = id; claims = c; key_id = key.1; alg = key.0; hint = None } else Err InvalidExpiration

-- the value of a token whose header and claims are these, or the first rule that they break
abbrev pub svid_from : List ℕ → Header → ClaimsSet → Result Svid JwtSvidError
svid_from token h c = then_ok (key_of h) (λ key. then_ok (subject_of (id_of c.sub)) (with_key token c key))

-- the same, where the header and the claims are bytes
unfoldable pub svid_of : List ℕ → List ℕ → List ℕ → Result Svid JwtSvidError
svid_of token header claims = then_ok (header_of header) (λ h. then_ok (claims_of claims) (svid_from token h))

-- the answer to a token whose header and claims are written so
abbrev pub AnswersParts : List ℕ → Result Svid JwtSvidError → Parts → Type 0
AnswersParts token answer p =
    ((IsNoPart p.header ⊎ IsNoPart p.claims) × (answer ≡ Err InvalidBase64))
    ⊎ ((header : List ℕ) × (claims : List ℕ) × IsPart p.header header × IsPart p.claims claims × (answer ≡ svid_of token header claims))

-- the answer to a token
abbrev pub Answers : List ℕ → Result Svid JwtSvidError → Type 0
Answers token answer = MatchOption (parts_of token) (answer ≡ Err InvalidJwtFormat) (AnswersParts token answer)

-- what holds of every token that was read
pub record IsSvid (claims : ClaimsSet) (id : Id) : Type 0 where
  pub subject : id_of claims.sub ≡ Ok id
  pub expiry : is_expiry claims.exp ≡ true

abbrev pub svid_eq : Svid → Svid → Bool
svid_eq =
    eq_of_both (on (λ s. s.token) (pointwise nat_eq)) (eq_of_both (on (λ s. s.spiffe_id) id_eq) (eq_of_both (on (λ s. s.claims) claims_eq)
    (eq_of_both (on (λ s. s.key_id) (pointwise nat_eq)) (eq_of_both (on (λ s. s.alg) alg_eq) (on (λ s. s.hint) (option_eq (pointwise nat_eq)))))))

id_equiv : IsEquivalence id_eq
id_equiv = and_equiv (on_equiv (λ i. i.trust_domain) nat_list_eq_equiv) (on_equiv (λ i. i.path) nat_list_eq_equiv)

pub svid_equiv : IsEquivalence svid_eq
svid_equiv =
    and_equiv (on_equiv (λ s. s.token) nat_list_eq_equiv) (and_equiv (on_equiv (λ s. s.spiffe_id) id_equiv) (and_equiv (on_equiv (λ s. s.claims) claims_equiv)
    (and_equiv (on_equiv (λ s. s.key_id) nat_list_eq_equiv) (and_equiv (on_equiv (λ s. s.alg) alg_equiv)
    (on_equiv (λ s. s.hint) (options_equiv nat_list_eq_equiv))))))

-- what `Debug` shows of a token: its subject, its algorithm, its expiry, how many audiences it has, and of its text the length
abbrev pub svid_debug : Id → JwtAlg → ℤ → ℕ → ℕ → List ℕ
svid_debug id alg expiry audiences len = codes "JwtSvid { spiffe_id: " ++ (id_text id ++ (codes ", alg: " ++ (alg_name alg
    ++ (codes ", expiry: " ++ (signed_decimal expiry ++ (codes ", audiences: " ++ (decimal audiences
    ++ (codes ", token: Token { len: " ++ (decimal len ++ codes " } }")))))))))
