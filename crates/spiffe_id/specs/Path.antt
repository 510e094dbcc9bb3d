-- Paths (SPIFFE-ID, section 2.2): segments that each stand behind a slash.
use Rattle.std.specs.Prelude.{◌≡◌, ℕ, nat_eq, List, [], ◌∷◌, ◌++◌, length, ◌||◌, ◌==◌, Result, Ok, Err, codes, if◌then◌else◌}
use Rattle.std.specs.List.{slice_split, list_all}
use Rattle.std.specs.Cmp.Lexicographic.{pointwise}
use Rattle.spiffe_id.specs.Rules.{then_ok}
use Rattle.spiffe_id.specs.TrustDomain.{is_name_byte, is_slash}
use Rattle.spiffe_id.specs.declared.error.SpiffeIdError.{SpiffeIdError}
use Rattle.spiffe_id.specs.declared.error.SpiffeIdError.TheVariants.{EmptySegment, DotSegment, TrailingSlash, BadPathSegmentChar}

-- the first rule that a segment breaks; `if_empty` is the one against an empty segment there
abbrev pub segment_check : SpiffeIdError → List ℕ → Result (Unit {0}) SpiffeIdError
segment_check if_empty segment =
    if length segment == 0 then Err if_empty
    else (if pointwise nat_eq segment (codes ".") || pointwise nat_eq segment (codes "..") then Err DotSegment
    else (if list_all is_name_byte segment then Ok tt else Err BadPathSegmentChar))

-- the segments of a written path from the left: an empty one that is the last is a trailing slash
abbrev pub path_segments_check : List (List ℕ) → Result (Unit {0}) SpiffeIdError
path_segments_check [] = Ok tt
path_segments_check (s ∷ []) = segment_check TrailingSlash s
path_segments_check (s ∷ t ∷ more) = then_ok (segment_check EmptySegment s) (λ _. path_segments_check (t ∷ more))

-- the first rule that a path breaks: its first byte is a slash, and slashes part its segments
abbrev pub path_check : List ℕ → Result (Unit {0}) SpiffeIdError
path_check [] = Ok tt
path_check (slash ∷ bs) = path_segments_check (slice_split is_slash bs)

-- a path as it is kept: none at all, or segments that break no rule, each behind a slash
abbrev pub IsPath : List ℕ → Type 0
IsPath [] = Unit {0}
IsPath (b ∷ bs) = (b ≡ 47) × (path_segments_check (slice_split is_slash bs) ≡ Ok tt)

-- the first rule that a segment of a list breaks, from the left
abbrev pub segments_check : List (List ℕ) → Result (Unit {0}) SpiffeIdError
segments_check [] = Ok tt
segments_check (s ∷ more) = then_ok (segment_check EmptySegment s) (λ _. segments_check more)

-- the path that segments make
abbrev pub joined : List (List ℕ) → List ℕ
joined [] = []
joined (s ∷ more) = 47 ∷ s ++ joined more
