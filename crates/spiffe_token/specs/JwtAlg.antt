-- The algorithms of a token's signature (JWT-SVID, section 2.1; RFC 7518, section 3.1).
use Rattle.std.specs.Prelude.{ℕ, nat_eq, List, Bool, Option, Some, None, codes, if◌then◌else◌}
use Rattle.std.specs.Ordering.{on}
use Rattle.std.specs.Cmp.{IsEquivalence}
use Rattle.std.specs.Cmp.Lexicographic.{pointwise, on_texts_equal}
use Rattle.spiffe_token.specs.declared.jwt_alg.JwtAlg.{JwtAlg}
use Rattle.spiffe_token.specs.declared.jwt_alg.JwtAlg.TheVariants.{RS256, RS384, RS512, ES256, ES384, ES512, PS256, PS384, PS512}

abbrev pub alg_name : JwtAlg → List ℕ
alg_name RS256 = codes "RS256"
alg_name RS384 = codes "RS384"
alg_name RS512 = codes "RS512"
alg_name ES256 = codes "ES256"
alg_name ES384 = codes "ES384"
alg_name ES512 = codes "ES512"
alg_name PS256 = codes "PS256"
alg_name PS384 = codes "PS384"
alg_name PS512 = codes "PS512"

abbrev pub alg_or : JwtAlg → Option JwtAlg → List ℕ → Option JwtAlg
alg_or alg others name = if pointwise nat_eq name (alg_name alg) then Some alg else others

-- the algorithm of that name
unfoldable pub alg_of : List ℕ → Option JwtAlg
alg_of name =
    alg_or RS256 (alg_or RS384 (alg_or RS512 (alg_or ES256 (alg_or ES384
    (alg_or ES512 (alg_or PS256 (alg_or PS384 (alg_or PS512 None name) name) name) name) name) name) name) name) name

abbrev pub alg_eq : JwtAlg → JwtAlg → Bool
alg_eq = on alg_name (pointwise nat_eq)

pub alg_equiv : IsEquivalence alg_eq
alg_equiv = on_texts_equal alg_name
