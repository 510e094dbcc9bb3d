-- The path that segments make is a path.
use Rattle.std.proofs.Common.{◌≡◌, ◌<◌, ℕ, zero, suc, true, false, List, [], ◌∷◌, ◌++◌, length, get_or, Ok, refl, arith, append-nil}
use Rattle.std.specs.List.{slice_split, list_all}
use Rattle.std.proofs.lemmas.List.Splits.{slice_split_none, slice_split_at}
use Rattle.std.proofs.lemmas.Bool.Decides.{nat_tests}
use Rattle.spiffe_id.specs.declared.error.SpiffeIdError.TheVariants.{EmptySegment, TrailingSlash}
use Rattle.spiffe_id.specs.TrustDomain.{is_name_byte, is_slash}
use Rattle.spiffe_id.specs.Path.{segment_check, segments_check, path_segments_check, joined, IsPath}
use Rattle.spiffe_id.proofs.LowerCase.{all_of}
use Rattle.spiffe_id.proofs.Reading.{no_slash}
use Rattle.spiffe_id.proofs.PathSegments.{step}

-- a segment that breaks no rule is one wherever it stands
anywhere : (s : List ℕ) → segment_check EmptySegment s ≡ Ok tt → (segment_check TrailingSlash s ≡ Ok tt) × (list_all is_name_byte s ≡ true)
anywhere s h = (grind (arith, nat_tests), grind (arith, nat_tests))

none_slash : (s : List ℕ) → list_all is_name_byte s ≡ true → (k d : ℕ) → k < length s → is_slash (get_or s k d) ≡ false
none_slash [] h k d lt = absurd (omega arith)
none_slash (b ∷ s) h zero d lt = no_slash b (all_of b s h).0
none_slash (b ∷ s) h (suc k) d lt = none_slash s (all_of b s h).1 k d (omega arith)

each : (s : List ℕ) (more : List (List ℕ)) → segments_check (s ∷ more) ≡ Ok tt → (segment_check EmptySegment s ≡ Ok tt) × (segments_check more ≡ Ok tt)
each s more h = (grind arith, grind arith)

checks : (s : List ℕ) (more : List (List ℕ)) → segments_check (s ∷ more) ≡ Ok tt → path_segments_check (slice_split is_slash (s ++ joined more)) ≡ Ok tt
checks s [] h =
    let m = anywhere s (each s [] h).0 in
    rw (append-nil s, slice_split_none is_slash s (none_slash s m.1)) m.0
checks s (t ∷ more) h =
    let p = each s (t ∷ more) h in
    let m = anywhere s p.0 in
    rw (slice_split_at is_slash s 47 (t ++ joined more) (none_slash s m.1) refl, step s (t ++ joined more), p.0) (checks t more p.1)

pub IsPath-joined : (segments : List (List ℕ)) → segments_check segments ≡ Ok tt → IsPath (joined segments)
IsPath-joined [] h = tt
IsPath-joined (s ∷ more) h = (refl, checks s more h)
