-- SPIFFE IDs (SPIFFE-ID, section 2): the scheme, a trust domain and a path.
use Rattle.std.specs.Prelude.{ℕ, ◌==◌, nat_lt, nat_eq, List, ◌++◌, length, drop, map, Bool, Result, Ok, Err, codes, if◌then◌else◌}
use Rattle.std.specs.declared.cmp.Ordering.{Ordering}
use Rattle.std.specs.Ordering.{nat_cmp, on, then_cmp, eq_of_both}
use Rattle.std.specs.Cmp.Lexicographic.{pointwise, slice_cmp}
use Rattle.std.specs.List.{before_first, position_or_len}
use Rattle.std.specs.Char.{to_ascii_lowercase}
use Rattle.spiffe_id.specs.Rules.{map_ok, then_ok}
use Rattle.spiffe_id.specs.Scheme.{after_scheme}
use Rattle.spiffe_id.specs.TrustDomain.{is_slash, trust_domain_check}
use Rattle.spiffe_id.specs.Path.{path_check, segments_check, joined}
use Rattle.spiffe_id.specs.declared.error.SpiffeIdError.{SpiffeIdError}
use Rattle.spiffe_id.specs.declared.error.SpiffeIdError.TheVariants.{Empty, SpiffeIdTooLong}

-- an id: its trust domain in lower case, and its path as written
pub record Id : Type 0 where
  pub trust_domain : List ℕ
  pub path : List ℕ

-- the canonical text of an id
abbrev pub id_text : Id → List ℕ
id_text id = codes "spiffe://" ++ id.trust_domain ++ id.path

-- what follows the trust domain: nothing, or what begins with the first slash
abbrev pub path_from : List ℕ → List ℕ
path_from rest = drop (position_or_len is_slash rest) rest

-- the trust domain and the path behind a scheme, as they are written
abbrev pub parts_after : List ℕ → Result (List ℕ × List ℕ) SpiffeIdError
parts_after rest =
    then_ok (trust_domain_check (before_first is_slash rest))
    (λ _. then_ok (path_check (path_from rest)) (λ _. Ok (before_first is_slash rest, path_from rest)))

unfoldable pub id_parts : List ℕ → Result (List ℕ × List ℕ) SpiffeIdError
id_parts text = if length text == 0 then Err Empty else then_ok (after_scheme text) parts_after

abbrev pub canonical : List ℕ × List ℕ → Id
canonical p = record { trust_domain = map to_ascii_lowercase p.0; path = p.1 }

-- the id that a text is, or the first rule that it breaks
unfoldable pub id_of : List ℕ → Result Id SpiffeIdError
id_of text = map_ok canonical (id_parts text)

abbrev pub id_of_path : List ℕ → List ℕ → Id
id_of_path domain path = record { trust_domain = domain; path = path }

-- the id in a trust domain whose path the segments make, or the first rule that they break;
-- the last rule is that its text has at most 2,048 bytes (section 2.3)
unfoldable pub id_from : List ℕ → List (List ℕ) → Result Id SpiffeIdError
id_from domain segments =
    then_ok (segments_check segments)
    (λ _. let id = id_of_path domain (joined segments) in if nat_lt 2048 (length (id_text id)) then Err (SpiffeIdTooLong 2048) else Ok id)

-- ids compare by their trust domains, and then by their paths
abbrev pub id_eq : Id → Id → Bool
id_eq = eq_of_both (on (λ i. i.trust_domain) (pointwise nat_eq)) (on (λ i. i.path) (pointwise nat_eq))

abbrev pub id_cmp : Id → Id → Ordering
id_cmp = then_cmp (on (λ i. i.trust_domain) (slice_cmp nat_cmp)) (on (λ i. i.path) (slice_cmp nat_cmp))
