-- The rules of items that are tried in turn.
use Rattle.std.proofs.Common.{◌≡◌, ◌≤◌, ℕ, ◌+◌, ◌<◌, List, [], ◌∷◌, ◌++◌, length, map, drop, get_or, Result, Ok, Err, inl, inr, sym, ap, subst, ◌∙◌, arith}
use Rattle.std.specs.declared.option.Option.{Option}
use Rattle.std.specs.Option.{ForSome}
use Rattle.std.proofs.lemmas.List.{drop_all, drop_more, map-append}
use Rattle.identity_io.specs.Causes.{Rose}
use Rattle.pack_update.specs.Packed.{Files}
use Rattle.pack_update.specs.Rules.{Each, Gives}
use Rattle.pack_update.specs.Tries.{Tries}
use Rattle.pack_update.specs.declared.error.PackError.{PackError}
use Rattle.pack_update.proofs.Steps.{Progress, all_done, one_done, one_refused}

module _ {Y X V A : Type 0} (see : Y → X) (plain : V → A) (Rule : ℕ → X → Result A PackError → Type 0) (ys : List Y) where
  at_front : (n : ℕ) (d : Y) → n < length ys → map see (drop n ys) ≡ see (get_or ys n d) ∷ map see (drop (n + 1) ys)
  at_front n d lt = ap (map see) (drop_more ys n d lt)

  -- one more item is read
  pub next_done : (n : ℕ) (d : Y) (old new : List V) (v : V) → n < length ys → new ≡ old ++ v ∷ [] → Rule n (see (get_or ys n d)) (Ok (plain v))
      → Progress Rule (map see ys) (map plain old) n (map see (drop n ys)) → Progress Rule (map see ys) (map plain new) (n + 1) (map see (drop (n + 1) ys))
  next_done n d old new v lt pushed holds before =
      let x : X = see (get_or ys n d) in
      let here : Progress Rule (map see ys) (map plain old) n (x ∷ map see (drop (n + 1) ys)) =
      subst (λ (l : List X). Progress Rule (map see ys) (map plain old) n l) (at_front n d lt) before in
      let same : map plain new ≡ map plain old ++ plain v ∷ [] = ap (map plain) pushed ∙ map-append plain old (v ∷ []) in
      subst (λ (l : List A). Progress Rule (map see ys) l (n + 1) (map see (drop (n + 1) ys))) (sym same)
      (one_done Rule (map see ys) (map plain old) n x (map see (drop (n + 1) ys)) (plain v) here holds)

  -- an item is refused
  pub next_refused : (n : ℕ) (d : Y) (found : List A) (e : PackError) → n < length ys → Rule n (see (get_or ys n d)) (Err e)
      → Progress Rule (map see ys) found n (map see (drop n ys)) → Each Rule 0 (map see ys) (Err e)
  next_refused n d found e lt broken before =
      one_refused Rule (map see ys) found n (see (get_or ys n d)) (map see (drop (n + 1) ys)) e
      (subst (λ (l : List X). Progress Rule (map see ys) found n l) (at_front n d lt) before) broken

-- the same over a disk
module _ {Y X V W A : Type 0} (see : Y → X) (plain : V → A) (plains : W → List A) (Rule : Files → ℕ → X → Result A PackError → Type 0) (ys : List Y) where
  abbrev pub So : Option Files → List A → ℕ → Type 0
  So told found n = ForSome told (λ files. Progress (Rule files) (map see ys) found n (map see (drop n ys)))

  pub loop_done : {old mid : Option Files} (n : ℕ) (d : Y) (before after : List V) (v : V) → n < length ys → after ≡ before ++ v ∷ []
      → So old (map plain before) n → mid ≡ old
      → ForSome mid (λ files. Gives plain (Rule files n (see (get_or ys n d))) (Ok v)) → So old (map plain after) (n + 1)
  loop_done n d before after v lt pushed so kept holds files told =
      next_done see plain (Rule files) ys n d before after v lt pushed (holds files (kept ∙ told)) (so files told)

  refused_gives : (files : Files) (n : ℕ) (d : Y) (found : List A) (e : PackError) → n < length ys
      → Progress (Rule files) (map see ys) found n (map see (drop n ys))
      → Gives plain (Rule files n (see (get_or ys n d))) (Err e) → Gives plains (Each (Rule files) 0 (map see ys)) (Err e)
  refused_gives files n d found e lt before (inl h) = inl h
  refused_gives files n d found e lt before (inr h) = inr (next_refused see plain (Rule files) ys n d found e lt h before)

  pub loop_refused : {old mid new : Option Files} {before between now : ℕ} (n : ℕ) (d : Y) (found : List A) (e : PackError) → n < length ys
      → So old found n → mid ≡ old → before ≤ between → Tries plain (λ files. Rule files n (see (get_or ys n d))) mid new between now (Err e)
      → Tries plains (λ files. Each (Rule files) 0 (map see ys)) old new before now (Err e)
  loop_refused {before = before} {between = between} {now = now} n d found e lt so kept later t = record {
    told = λ files told. refused_gives files n d found e lt (so files told) (t.told files (kept ∙ told));
    kept = t.kept ∙ kept;
    later = let b : between ≤ now = t.later in omega arith;
    fault = λ fault. let b : Rose between now = t.fault fault in omega arith;
  }

  pub loop_ended : {old new : Option Files} {before now : ℕ} (n : ℕ) (w : W) → length ys ≤ n → So old (plains w) n → new ≡ old → before ≤ now
      → Tries plains (λ files. Each (Rule files) 0 (map see ys)) old new before now (Ok w)
  loop_ended n w past so kept later = record {
    told = λ files told. all_done (Rule files) (map see ys) (plains w) n
        (subst (λ (l : List Y). Progress (Rule files) (map see ys) (plains w) n (map see l)) (drop_all n ys past) (so files told));
    kept = kept;
    later = later;
    fault = tt;
  }
