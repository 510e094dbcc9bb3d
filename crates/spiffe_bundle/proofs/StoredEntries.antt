-- A stored map beside its entries.
use Rattle.std.proofs.Common.{◌≡◌, ℕ, List, [], ◌∷◌, Bool, ◌&&◌, Option, Some, None, IfSome, option_map, map, cond, Global, Bor, nat_eq, nat_cmp, is_eq}
use Rattle.std.proofs.Common.{Ordering, Less, Equal, Greater, refl, ap, ◌∙◌}
use Rattle.std.specs.declared.sync.Arc.{Arc}
use Rattle.std.specs.Arc.{arc_value}
use Rattle.std.specs.Cmp.Lexicographic.{pointwise, slice_cmp}
use Rattle.std.specs.Map.{lookup, values_of, keys_of}
use Rattle.std.specs.List.{AllZip, AllByRecursion}
use Rattle.std.specs.List.Sorted.{IsStrictlySortedBy}
use Rattle.std.specs.Ordering.{match_ordering}
use Rattle.std.specs.BTreeMap.{insert_entry, is_at}
use Rattle.spiffe_bundle.specs.Entries.{Entries, AreNamed, with_entry, find_entry, IsAscending, entries_eq, stored_entries}
use Rattle.spiffe_bundle.proofs.MapEntries.{named_at}

behind : {V : Type 0} → (r : Option (Bor (Arc V Global))) → option_map (λ a. arc_value a.now) r ≡ option_map arc_value (option_map (λ a. a.now) r)
behind None = refl
behind (Some a) = refl

-- what is lent of a map whose values stand at the texts they bear
pub named_found : {V : Type 0} (name : V → List ℕ) (q : List ℕ) (es : Entries V) (r : Option (Bor (Arc V Global))) → AreNamed name es
    → option_map (λ a. arc_value a.now) r ≡ find_entry q es
    → IfSome r (λ a. name (arc_value a.now) ≡ q)
named_found name q es None h e = tt
named_found {V = V} name q es (Some a) h e =
    let found : IfSome (find_entry q es) (λ v. name v ≡ q) = named_at {V = V} name q es h in
    rw (← e) at found

abbrev Stored : Type 0 → Type 0 → Type 0
Stored K V = List (K × Arc V Global)

-- stored keys compare as their texts do
abbrev order : {K : Type 0} → (K → List ℕ) → K → K → Ordering
order text a b = slice_cmp nat_cmp (text a) (text b)

module _ {K V : Type 0} (text : K → List ℕ) where
  stored-match_ordering : (o : Ordering) (a b c : Stored K V)
      → stored_entries text (match_ordering o a b c) ≡ match_ordering o (stored_entries text a) (stored_entries text b) (stored_entries text c)
  stored-match_ordering Less a b c = refl
  stored-match_ordering Equal a b c = refl
  stored-match_ordering Greater a b c = refl

  pub stored-insert_entry : (es : Stored K V) (k : K) (v : Arc V Global)
      → stored_entries text (insert_entry (order text) es k v) ≡ with_entry (stored_entries text es) (text k) (arc_value v)
  stored-insert_entry [] k v = refl
  stored-insert_entry (e ∷ es) k v = stored-match_ordering (order text k e.0) _ _ _ ∙ rw (stored-insert_entry es k v)

  found_or : (o : Ordering) (v : Arc V Global) (rest : Option (Arc V Global)) (found : Option V) → option_map arc_value rest ≡ found
      → option_map arc_value (cond (is_eq o) (Some v) rest) ≡ cond (is_eq o) (Some (arc_value v)) found
  found_or Less v rest found e = e
  found_or Equal v rest found e = refl
  found_or Greater v rest found e = e

  stored-lookup : (q : List ℕ) (es : Stored K V) → option_map arc_value (lookup (is_at (λ k. slice_cmp nat_cmp q (text k))) es)
      ≡ find_entry q (stored_entries text es)
  stored-lookup q [] = refl
  stored-lookup q (e ∷ es) = found_or (slice_cmp nat_cmp q (text e.0)) e.1 _ _ (stored-lookup q es)

  -- what a look-up lends
  pub stored_found : (q : List ℕ) (es : Stored K V) (r : Option (Bor (Arc V Global)))
      → option_map (λ a. a.now) r ≡ lookup (is_at (λ k. slice_cmp nat_cmp q (text k))) es
      → option_map (λ a. arc_value a.now) r ≡ find_entry q (stored_entries text es)
  stored_found q es r e = behind r ∙ ap (option_map arc_value) e ∙ stored-lookup q es

  pub stored_values : (es : Stored K V) → map arc_value (values_of es) ≡ values_of (stored_entries text es)
  stored_values [] = refl
  stored_values (e ∷ es) = ap (λ rest. arc_value e.1 ∷ rest) (stored_values es)

  below : (k : List ℕ) (es : Stored K V) → AllByRecursion (λ y. slice_cmp nat_cmp k (text y) ≡ Less) (keys_of es)
      → AllByRecursion (λ y. slice_cmp nat_cmp k y ≡ Less) (keys_of (stored_entries text es))
  below k [] h = tt
  below k (e ∷ es) h = (h.0, below k es h.1)

  pub stored_ascends : (es : Stored K V) → IsStrictlySortedBy (order text) (keys_of es) → IsAscending (stored_entries text es)
  unfolding IsStrictlySortedBy
  stored_ascends [] h = tt
  stored_ascends (e ∷ es) h = (below (text e.0) es h.0, stored_ascends es h.1)

  pub stored_clone : (es new : Stored K V) → AllZip (λ p q. (text q.0 ≡ text p.0) × (arc_value q.1 ≡ arc_value p.1)) es new
      → stored_entries text new ≡ stored_entries text es
  stored_clone [] [] h = refl
  stored_clone [] (y ∷ ys) h = absurd h
  stored_clone (x ∷ xs) [] h = absurd h
  stored_clone (x ∷ xs) (y ∷ ys) h = rw (h.0.0, h.0.1, stored_clone xs ys h.1)

  pub stored_eq : (eq : V → V → Bool) (xs ys : Stored K V) → pointwise (λ p q. pointwise nat_eq (text p.0) (text q.0) && eq (arc_value p.1) (arc_value q.1))
      xs ys ≡ entries_eq eq (stored_entries text xs) (stored_entries text ys)
  stored_eq eq [] [] = refl
  stored_eq eq [] (y ∷ ys) = refl
  stored_eq eq (x ∷ xs) [] = refl
  stored_eq eq (x ∷ xs) (y ∷ ys) = ap (λ rest. (pointwise nat_eq (text x.0) (text y.0) && eq (arc_value x.1) (arc_value y.1)) && rest) (stored_eq eq xs ys)

  -- a map after a value went into its stored map
  pub stored_added : (was : Entries V) (es new : Stored K V) (key : K) (value : Arc V Global) (k : List ℕ) (v : V) → stored_entries text es ≡ was
      → new ≡ insert_entry (order text) es key value → text key ≡ k → arc_value value ≡ v
      → stored_entries text new ≡ with_entry was k v
  stored_added was es new key value k v before is named same = rw (← before, is, stored-insert_entry es key value, named, same)
