-- One step of a loop over keys or bundles.
use Rattle.std.proofs.Common.{◌≡◌, ℕ, List, [], ◌∷◌, ◌++◌, length, take, fold, Result, Ok, Err, OnErr, refl, ap, arith, append_assoc, length-append}
use Rattle.spiffe_id.specs.Rules.{map_ok}
use Rattle.spiffe_bundle.specs.declared.error.JwtBundleError.{JwtBundleError}
use Rattle.spiffe_bundle.specs.JwtAuthority.{Authority}
use Rattle.spiffe_bundle.specs.Entries.{AreNamed, Entries, with_entry, IsAscending}
use Rattle.spiffe_bundle.specs.KeySet.{Authorities, with_authority}
use Rattle.spiffe_bundle.specs.JwtBundle.{Bundle}
use Rattle.spiffe_bundle.specs.JwtBundleSet.{Bundles, with_bundles, IsPartlyExtended}
use Rattle.spiffe_bundle.proofs.MapEntries.{goes_last, named_among}

-- the first authority goes into the map before the others
pub one_more : (found : Authorities) (a : Authority) (more : Result (List Authority) JwtBundleError)
    → map_ok (fold with_authority found) (map_ok (λ others. a ∷ others) more) ≡ map_ok (fold with_authority (with_authority found a)) more
one_more found a (Ok others) = refl
one_more found a (Err e) = refl

-- a copy of a map, entry by entry: what is copied and what is left make the whole
pub copied_more : {V : Type 0} (all copied new rest : Entries V) (k : List ℕ) (v : V) → IsAscending all → copied ++ (k, v) ∷ rest ≡ all
    → new ≡ with_entry copied k v → new ++ rest ≡ all
copied_more all copied new rest k v ascending so_far is =
    let whole : IsAscending (copied ++ (k, v) ∷ rest) = rw so_far ascending in
    rw (is, goes_last copied rest k v whole, append_assoc) so_far

-- the same, where each value stands at the text that it bears
pub copied_named : {V : Type 0} (name : V → List ℕ) (all copied new rest : Entries V) (k : List ℕ) (v : V) → IsAscending all → AreNamed name all
    → copied ++ (k, v) ∷ rest ≡ all → new ≡ with_entry copied (name v) v → new ++ rest ≡ all
copied_named name all copied new rest k v ascending named so_far is =
    let whole : AreNamed name (copied ++ (k, v) ∷ rest) = rw so_far named in
    let here : k ≡ name v = named_among name copied rest k v whole in
    copied_more all copied new rest k v ascending so_far (rw here is)

taken : (done rest : List Bundle) → take (length done) (done ++ rest) ≡ done
taken [] rest = refl
taken (b ∷ done) rest = ap (λ bs. b ∷ bs) (taken done rest)

-- where the bundle after those that are done is refused
pub partly_extended : (r : Result (Unit {0}) JwtBundleError) (old new : Bundles) (all done rest : List Bundle) (b : Bundle) → all ≡ done ++ b ∷ rest
    → new ≡ with_bundles old done → OnErr r (IsPartlyExtended old all new)
partly_extended (Ok u) old new all done rest b is so_far = tt
partly_extended (Err e) old new all done rest b is so_far = (
  length done,
  (rw (is, length-append done (b ∷ rest)) (omega arith)),
  (rw (is, taken done (b ∷ rest)) so_far),
)
