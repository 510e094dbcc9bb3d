-- The rules of entries, tried in turn while entries are written.
use Rattle.std.proofs.Common.{◌≡◌, ℕ, ◌+◌, ◌<◌, ◌^◌, List, [], ◌∷◌, ◌++◌, length, map, Result, Ok, Err, refl, sym, ap, ◌∙◌, append_assoc, length-append, arith}
use Rattle.std.proofs.lemmas.List.{reverse-append}
use Rattle.std.specs.List.{flat_map}
use Rattle.std.specs.Prelude.{reverse}
use Rattle.spiffe_id.specs.Rules.{map_ok, then_ok}
use Rattle.update_document.specs.Refs.{EntryRef, written_entry}
use Rattle.update_document.specs.Spelling.{entry_der}
use Rattle.update_document.specs.Written.{WrittenEntry}
use Rattle.identity_update.specs.Canonical.{canonical_entry}
use Rattle.identity_update.specs.Kept.{IsKept, kept_entry}
use Rattle.identity_update.specs.KeptEntries.{AreWritten, entries_der}
use Rattle.identity_update.specs.Parts.{Entry}
use Rattle.identity_update.specs.PartsVerdict.{pairs_check}
use Rattle.identity_update.specs.Verdict.{entries_check, entry_check, keys_check}
use Rattle.identity_update.specs.declared.error.UpdateError.{UpdateError}
use Rattle.identity_update.specs.declared.kept.KeptEntry.{KeptEntry}
use Rattle.identity_update.proofs.KeptLaws.{pushed}
use Rattle.identity_update.proofs.VerdictLaws.{entry_fits_in}

abbrev with_others : List Entry → Result (List Entry) UpdateError → Result (List Entry) UpdateError
with_others old r = map_ok (λ more. old ++ more) r

with_one : (old : List Entry) (v : Entry) (r : Result (List Entry) UpdateError) → with_others (old ++ v ∷ []) r ≡ with_others old (map_ok (λ more. v ∷ more) r)
with_one old v (Ok more) =
    let ok : List Entry → Result (List Entry) UpdateError = λ vs. Ok vs in
    ap ok (append_assoc old (v ∷ []) more)
with_one old v (Err e) = refl

-- the entries that were written, what the rules say of the others, and room for these
pub record EntriesSoFar (written : List ℕ) (kept : List KeptEntry) (left : List WrittenEntry) (all : Result (List Entry) UpdateError) : Type 0 where
  pub are : AreWritten written kept
  pub so : map_ok (λ more. map (kept_entry written) kept ++ more) (entries_check (length kept) left) ≡ all
  pub fits : length written + length (flat_map entry_der left) < 2 ^ 32

pub entry_has_room : (written : List ℕ) (kept : List KeptEntry) (first : WrittenEntry) (rest : List WrittenEntry) (all : Result (List Entry) UpdateError)
    (n : ℕ) (v : Entry) → EntriesSoFar written kept (first ∷ rest) all → entry_check n first ≡ Ok v
    → length written + length (entry_der (canonical_entry v)) < 2 ^ 32
entry_has_room written kept first rest all n v h ok =
    let fits = h.fits in
    let sum = length-append (entry_der first) (flat_map entry_der rest) in
    let shorter = entry_fits_in n first v ok in
    omega arith

then_first : List Entry → List WrittenEntry → ℕ → Result Entry UpdateError → Result (List Entry) UpdateError
then_first old rest n r = with_others old (then_ok r (λ v. map_ok (λ more. v ∷ more) (entries_check (n + 1) rest)))

pub entry_after : (written : List ℕ) (kept : List KeptEntry) (first : WrittenEntry) (rest : List WrittenEntry) (all : Result (List Entry) UpdateError)
    (n : ℕ) (v : Entry) (e : KeptEntry) (new : List ℕ) (fs : List KeptEntry) → EntriesSoFar written kept (first ∷ rest) all → n ≡ length kept
    → entry_check n first ≡ Ok v → new ≡ written ++ entry_der (canonical_entry v) → fs ≡ kept ++ e ∷ [] → kept_entry new e ≡ v → IsKept new e
    → EntriesSoFar new fs rest all
unfolding then_first
entry_after written kept first rest all n v e new fs h at ok is push same one =
    let old : List Entry = map (kept_entry written) kept in
    let p = pushed written kept v e new fs h.are is push same one in
    let checked : entry_check (length kept) first ≡ Ok v = ap (λ (k : ℕ). entry_check k first) (sym at) ∙ ok in
    let fits = h.fits in
    let sum = length-append (entry_der first) (flat_map entry_der rest) in
    let shorter = entry_fits_in n first v ok in
    let long = ap length is ∙ length-append written (entry_der (canonical_entry v)) in
    record {
      are = p.written;
      so =
          ap (λ (vs : List Entry). with_others vs (entries_check (length fs) rest)) p.entries
          ∙ ap (λ (k : ℕ). with_others (old ++ v ∷ []) (entries_check k rest)) p.count
          ∙ with_one old v (entries_check (length kept + 1) rest)
          ∙ sym (ap (then_first old rest (length kept)) checked)
          ∙ h.so;
      fits = omega arith;
    }

-- the last of a reversed list is the next one
pub popped : (old new : List EntryRef) (entry : EntryRef) → old ≡ new ++ entry ∷ []
    → map written_entry (reverse old) ≡ written_entry entry ∷ map written_entry (reverse new)
popped old new entry is = ap (λ (es : List EntryRef). map written_entry (reverse es)) is ∙ ap (map written_entry) (reverse-append new (entry ∷ []))

-- the same of entries that have only the rules of keys
pub record PairsSoFar (written : List ℕ) (kept : List KeptEntry) (left all : List Entry) : Type 0 where
  pub are : AreWritten written kept
  pub pairs : pairs_check (length kept) left ≡ pairs_check 0 all
  pub entries : map (kept_entry written) kept ++ left ≡ all
  pub fits : length written + length (entries_der left) < 2 ^ 32

then_pairs : List Entry → ℕ → Result (Unit {0}) UpdateError → Result (Unit {0}) UpdateError
then_pairs rest n r = then_ok r (λ _. pairs_check (n + 1) rest)

pub pair_after : (written : List ℕ) (kept : List KeptEntry) (first : Entry) (rest all : List Entry) (n : ℕ) (e : KeptEntry) (new : List ℕ)
    (fs : List KeptEntry) → PairsSoFar written kept (first ∷ rest) all → n ≡ length kept → keys_check n first.private_key first.public_key ≡ Ok tt
    → new ≡ written ++ entry_der (canonical_entry first) → fs ≡ kept ++ e ∷ [] → kept_entry new e ≡ first → IsKept new e → PairsSoFar new fs rest all
unfolding then_pairs
pair_after written kept first rest all n e new fs h at ok is push same one =
    let old : List Entry = map (kept_entry written) kept in
    let p = pushed written kept first e new fs h.are is push same one in
    let checked : keys_check (length kept) first.private_key first.public_key ≡ Ok tt =
    ap (λ (k : ℕ). keys_check k first.private_key first.public_key) (sym at) ∙ ok in
    let fits = h.fits in
    let sum = length-append (entry_der (canonical_entry first)) (entries_der rest) in
    let long = ap length is ∙ length-append written (entry_der (canonical_entry first)) in
    record {
      are = p.written;
      pairs = ap (λ (k : ℕ). pairs_check k rest) p.count ∙ sym (ap (then_pairs rest (length kept)) checked) ∙ h.pairs;
      entries = ap (λ (vs : List Entry). vs ++ rest) p.entries ∙ append_assoc old (first ∷ []) rest ∙ h.entries;
      fits = omega arith;
    }
