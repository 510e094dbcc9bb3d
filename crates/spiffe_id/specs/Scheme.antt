-- The scheme of a URI (RFC 3986, section 3.1), which is `spiffe` for a SPIFFE ID (SPIFFE-ID, section 2).
use Rattle.std.specs.Prelude.{ℕ, nat_eq, List, [], ◌∷◌, length, drop, map, Bool, false, Result, Ok, Err, Option, Some, None, option_map, if◌then◌else◌, codes}
use Rattle.std.specs.Option.{option_map_or}
use Rattle.std.specs.List.{starts_with}
use Rattle.std.specs.Char.{to_ascii_lowercase}
use Rattle.std.specs.Cmp.Lexicographic.{pointwise}
use Rattle.spiffe_id.specs.declared.error.SpiffeIdError.{SpiffeIdError}
use Rattle.spiffe_id.specs.declared.error.SpiffeIdError.TheVariants.{WrongScheme}

-- what stands before and after the first `separator` of a text
abbrev pub split_first : List ℕ → List ℕ → Option (List ℕ × List ℕ)
split_first separator [] = None
split_first separator (b ∷ bs) =
    if starts_with nat_eq (b ∷ bs) separator then Some ([], drop (length separator) (b ∷ bs))
    else option_map (λ p. (b ∷ p.0, p.1)) (split_first separator bs)

-- `spiffe`, in any ASCII case
abbrev pub is_spiffe_scheme : List ℕ → Bool
is_spiffe_scheme scheme = pointwise nat_eq (map to_ascii_lowercase scheme) (codes "spiffe")

-- whether what stands before the first `://` is the scheme
unfoldable pub has_spiffe_scheme : List ℕ → Bool
has_spiffe_scheme text = option_map_or (λ p. is_spiffe_scheme p.0) (split_first (codes "://") text) false

abbrev pub if_spiffe_scheme : Option (List ℕ × List ℕ) → Result (List ℕ) SpiffeIdError
if_spiffe_scheme None = Err WrongScheme
if_spiffe_scheme (Some p) = if is_spiffe_scheme p.0 then Ok p.1 else Err WrongScheme

-- what follows the scheme and its `://`
unfoldable pub after_scheme : List ℕ → Result (List ℕ) SpiffeIdError
after_scheme text = if_spiffe_scheme (split_first (codes "://") text)
