-- One step of the check of segments.
use Rattle.std.proofs.Common.{Option, slice_index, ◌-◌, Ok, Err, Result, ◌≡◌, ◌<◌, ◌+◌, ℕ, true, false, cond, ◌≤◌, List, [], ◌∷◌, length, take, drop, Some}
use Rattle.std.proofs.Common.{None, refl, sym, arith}
use Rattle.std.specs.Str.{IsCharBoundary}
use Rattle.std.specs.List.{slice_split, position, position_or_len, onto_first, before_first}
use Rattle.std.proofs.lemmas.List.Splits.{slice_split_first, slice_split_none}
use Rattle.std.proofs.lemmas.List.{drop_more}
use Rattle.std.proofs.lemmas.List.Sums.{fails_before_first}
use Rattle.std.proofs.lemmas.Bool.Decides.{nat_tests, Decides-eqb}
use Rattle.std.proofs.lemmas.List.Quantifiers.{position-Some}
use Rattle.spiffe_id.specs.declared.error.SpiffeIdError.TheVariants.{EmptySegment, TrailingSlash}
use Rattle.std.proofs.lemmas.Grind.{common_steps}
use Rattle.spiffe_id.specs.declared.error.SpiffeIdError.{SpiffeIdError}
use Rattle.spiffe_id.specs.Rules.{then_ok}
use Rattle.spiffe_id.specs.TrustDomain.{is_slash}
use Rattle.spiffe_id.specs.Path.{path_check, IsPath, segment_check, path_segments_check}
use Rattle.spiffe_id.specs.SpiffeId.{path_from}

part_onto : (x : ℕ) (parts : List (List ℕ)) → (s : List ℕ) × (more : List (List ℕ)) × (onto_first x parts ≡ s ∷ more)
part_onto x [] = (x ∷ [], [], refl)
part_onto x (part ∷ parts) = (x ∷ part, parts, refl)

part_of : (bs : List ℕ) → (s : List ℕ) × (more : List (List ℕ)) × (slice_split is_slash bs ≡ s ∷ more)
part_of [] = ([], [], refl)
part_of (b ∷ bs) = elim (is_slash b) as (λ v. (s : List ℕ) × (more : List (List ℕ))
    × (cond v ([] ∷ slice_split is_slash bs) (onto_first b (slice_split is_slash bs)) ≡ s ∷ more))
    [ true ↦ ([], slice_split is_slash bs, refl) | false ↦ part_onto b (slice_split is_slash bs) ]

pub found_at : (bs : List ℕ) (i : ℕ) → position is_slash bs ≡ Some i → (position_or_len is_slash bs ≡ i) × (i < length bs)
found_at bs i e = (grind (arith, nat_tests), grind (arith, nat_tests))

none_before : (bs : List ℕ) → position is_slash bs ≡ None → length bs ≤ position_or_len is_slash bs
none_before bs e = grind (arith, nat_tests)

pub step : (s rest : List ℕ) → path_segments_check (s ∷ slice_split is_slash rest)
    ≡ then_ok (segment_check EmptySegment s) (λ _. path_segments_check (slice_split is_slash rest))
step s rest = let t = part_of rest in rw t.2 refl

pub segments_at : (bs : List ℕ) (i : ℕ) → position is_slash bs ≡ Some i
    → path_segments_check (slice_split is_slash bs) ≡ then_ok (segment_check EmptySegment (take i bs))
    (λ _. path_segments_check (slice_split is_slash (drop (i + 1) bs)))
segments_at bs i e =
    let f = found_at bs i e in
    let within : position_or_len is_slash bs < length bs = omega arith in
    rw (slice_split_first is_slash bs 0 within, f.0) (step (take i bs) (drop (i + 1) bs))

pub segments_last : (bs : List ℕ) → position is_slash bs ≡ None → path_segments_check (slice_split is_slash bs) ≡ segment_check TrailingSlash bs
segments_last bs e =
    let past = none_before bs e in
    rw (slice_split_none is_slash bs (λ k d h. fails_before_first is_slash bs k d (omega arith)))

rest_of : (bs : List ℕ) (n : ℕ) → take (length bs - n) (drop n bs) ≡ drop n bs
rest_of bs n = grind (arith, common_steps)

pub goes_on : (all rest : List ℕ) (i : ℕ) (u : Unit {0}) → path_segments_check (slice_split is_slash all) ≡ path_segments_check (slice_split is_slash rest)
    → Some i ≡ position is_slash rest → Ok u ≡ segment_check EmptySegment (take i rest)
    → path_segments_check (slice_split is_slash all) ≡ path_segments_check (slice_split is_slash (take (length rest - (i + 1)) (drop (i + 1) rest)))
goes_on all rest i u same at ok = rw (rest_of rest (i + 1), same, segments_at rest i (sym at), ← ok)

pub stops : (all rest : List ℕ) (i : ℕ) (e : SpiffeIdError) → path_segments_check (slice_split is_slash all)
    ≡ path_segments_check (slice_split is_slash rest) → Some i ≡ position is_slash rest → Err e ≡ segment_check EmptySegment (take i rest)
    → Err e ≡ path_segments_check (slice_split is_slash all)
stops all rest i e same at err = rw (same, segments_at rest i (sym at), ← err)

pub ends : (all rest : List ℕ) (r : Result (Unit {0}) SpiffeIdError)
    → path_segments_check (slice_split is_slash all) ≡ path_segments_check (slice_split is_slash rest) → None ≡ position is_slash rest
    → r ≡ segment_check TrailingSlash rest
    → r ≡ path_segments_check (slice_split is_slash all)
ends all rest r same at is = rw (same, segments_last rest (sym at), is)

-- a text may be cut at a slash
pub cut_at_slash : (bs : List ℕ) (i : ℕ) → Some i ≡ position is_slash bs → IsCharBoundary bs i
cut_at_slash bs i e =
    let p = position-Some is_slash bs i 0 (sym e) in
    let is : slice_index bs i ≡ 47 = (Decides-eqb (slice_index bs i) 47).0 p.1 in
    (omega arith, λ within high. omega arith)

pub before_slash : (bs : List ℕ) (i : ℕ) → Some i ≡ position is_slash bs → position_or_len is_slash bs ≡ i
before_slash bs i e = (found_at bs i (sym e)).0

pub past_end : (bs : List ℕ) → None ≡ position is_slash bs → (before_first is_slash bs ≡ bs) × (path_from bs ≡ [])
past_end bs e = let past = none_before bs (sym e) in (grind (arith, common_steps), grind (arith, common_steps))

path_at : (p : List ℕ) (t : List ℕ) → p ≡ 47 ∷ t → path_check p ≡ Ok tt → IsPath p
path_at [] t e h = tt
path_at (b ∷ bs) t e h = (cc, h)

cons_at : (rest : List ℕ) (i : ℕ) → Some i ≡ position is_slash rest → path_from rest ≡ 47 ∷ drop (i + 1) rest
cons_at rest i e =
    let p = position-Some is_slash rest i 0 (sym e) in
    let is : slice_index rest i ≡ 47 = (Decides-eqb (slice_index rest i) 47).0 p.1 in
    rw (before_slash rest i e, drop_more rest i 0 p.0, is)

path_by : (rest : List ℕ) (o : Option ℕ) → o ≡ position is_slash rest → path_check (path_from rest) ≡ Ok tt → IsPath (path_from rest)
path_by rest None e h = rw (past_end rest e).1 tt
path_by rest (Some i) e h = path_at (path_from rest) (drop (i + 1) rest) (cons_at rest i e) h

-- what stands behind the domain begins with a slash, if anything stands there
pub path_from_is : (rest : List ℕ) → path_check (path_from rest) ≡ Ok tt → IsPath (path_from rest)
path_from_is rest h = path_by rest (position is_slash rest) refl h
