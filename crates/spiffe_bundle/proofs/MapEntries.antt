-- A map from texts at a text, after an entry went in.
use Rattle.std.proofs.Common.{◌≡◌, ℕ, List, [], ◌∷◌, ◌++◌, Option, Some, IfSome, Bool, true, false, cond, nat_cmp, is_eq, bytes_eq, Ordering, Less, Equal}
use Rattle.std.proofs.Common.{Greater, refl, sym, ap, ◌∙◌}
use Rattle.std.proofs.lemmas.Cmp.{nat_list_cmp_total, tied_itself}
use Rattle.std.proofs.lemmas.Map.Text.{is_eq-slice_cmp}
use Rattle.std.proofs.lemmas.Slice.Eq.{bytes_eq-Decides}
use Rattle.std.specs.Cmp.Lexicographic.{slice_cmp}
use Rattle.std.specs.List.{AllByRecursion}
use Rattle.std.specs.List.Sorted.{IsStrictlySortedBy}
use Rattle.std.specs.Map.{lookup, keys_of}
use Rattle.std.specs.Ordering.{match_ordering, ordering_reverse}
use Rattle.std.specs.BTreeMap.{insert_entry, is_at}
use Rattle.spiffe_bundle.specs.Entries.{Entries, AreNamed, with_entry, find_entry, IsAscending}

same_text : (xs : List ℕ) → slice_cmp nat_cmp xs xs ≡ Equal
same_text xs = tied_itself nat_list_cmp_total xs

tied : (xs ys : List ℕ) → is_eq (slice_cmp nat_cmp xs ys) ≡ true → xs ≡ ys
tied xs ys e = (bytes_eq-Decides xs ys).0 (sym (is_eq-slice_cmp xs ys) ∙ e)

not_true : (b : Bool) → (b ≡ true → ⊥) → b ≡ false
not_true true h = absurd (h refl)
not_true false h = refl

-- two texts that differ are no tie
apart : (xs ys : List ℕ) → (xs ≡ ys → ⊥) → is_eq (slice_cmp nat_cmp xs ys) ≡ false
apart xs ys other = not_true (is_eq (slice_cmp nat_cmp xs ys)) (λ e. other (tied xs ys e))

above : (xs ys : List ℕ) → slice_cmp nat_cmp ys xs ≡ Less → slice_cmp nat_cmp xs ys ≡ Greater
above xs ys below = nat_list_cmp_total.antisymm xs ys ∙ ap ordering_reverse below

module _ {V : Type 0} where
  at_same : (o : Ordering) (k l : List ℕ) (v w : V) (es : Entries V) → slice_cmp nat_cmp k l ≡ o
      → lookup (is_at (slice_cmp nat_cmp k)) (insert_entry (slice_cmp nat_cmp) es k v) ≡ Some v
      → lookup (is_at (slice_cmp nat_cmp k)) (match_ordering o ((k, v) ∷ (l, w) ∷ es) ((l, v) ∷ es) ((l, w) ∷ insert_entry (slice_cmp nat_cmp) es k v)) ≡ Some v
  at_same Less k l v w es is later = rw same_text
  at_same Equal k l v w es is later = rw is
  at_same Greater k l v w es is later = rw is later

  -- what went in is found
  pub found_same : (k : List ℕ) (v : V) (es : Entries V) → find_entry k (with_entry es k v) ≡ Some v
  found_same k v [] = rw same_text
  found_same k v (e ∷ es) = at_same _ k e.0 v e.1 es refl (found_same k v es)

  at_other : (o : Ordering) (q k l : List ℕ) (v w : V) (es : Entries V) → slice_cmp nat_cmp k l ≡ o → (q ≡ k → ⊥)
      → lookup (is_at (slice_cmp nat_cmp q)) (insert_entry (slice_cmp nat_cmp) es k v) ≡ lookup (is_at (slice_cmp nat_cmp q)) es
      → lookup (is_at (slice_cmp nat_cmp q)) (match_ordering o ((k, v) ∷ (l, w) ∷ es) ((l, v) ∷ es) ((l, w) ∷ insert_entry (slice_cmp nat_cmp) es k v))
      ≡ lookup (is_at (slice_cmp nat_cmp q)) ((l, w) ∷ es)
  at_other Less q k l v w es is other later = rw (apart q k other)
  at_other Equal q k l v w es is other later =
      let same : k ≡ l = tied k l (ap is_eq is) in
      rw (apart q l (λ h. other (h ∙ sym same)))
  at_other Greater q k l v w es is other later = ap (λ r. cond (is_eq (slice_cmp nat_cmp q l)) (Some w) r) later

  -- and all others are as before
  pub found_other : (q k : List ℕ) (v : V) (es : Entries V) → (q ≡ k → ⊥) → find_entry q (with_entry es k v) ≡ find_entry q es
  found_other q k v [] other = rw (apart q k other)
  found_other q k v (e ∷ es) other = at_other _ q k e.0 v e.1 es refl other (found_other q k v es other)

  among : (P : List ℕ → Type 0) (front rest : Entries V) (k : List ℕ) (v : V) → AllByRecursion P (keys_of (front ++ (k, v) ∷ rest)) → P k
  among P [] rest k v h = h.0
  among P (e ∷ front) rest k v h = among P front rest k v h.1

  -- an entry above all others goes in at the end
  pub goes_last : (front rest : Entries V) (k : List ℕ) (v : V) → IsAscending (front ++ (k, v) ∷ rest) → with_entry front k v ≡ front ++ (k, v) ∷ []
  unfolding IsStrictlySortedBy
  goes_last [] rest k v h = refl
  goes_last (e ∷ front) rest k v h = rw (above k e.0 (among (λ y. slice_cmp nat_cmp e.0 y ≡ Less) front rest k v h.0), goes_last front rest k v h.1)

  -- values that stand at the texts they bear
  module _ (name : V → List ℕ) where
    named_step : (o : Ordering) (k l : List ℕ) (v w : V) (es : Entries V) → slice_cmp nat_cmp k l ≡ o → k ≡ name v → l ≡ name w → AreNamed name es
        → AreNamed name (insert_entry (slice_cmp nat_cmp) es k v)
        → AreNamed name (match_ordering o ((k, v) ∷ (l, w) ∷ es) ((l, v) ∷ es) ((l, w) ∷ insert_entry (slice_cmp nat_cmp) es k v))
    named_step Less k l v w es is here there rest later = (here, (there, rest))
    named_step Equal k l v w es is here there rest later = (sym (tied k l (ap is_eq is)) ∙ here, rest)
    named_step Greater k l v w es is here there rest later = (there, later)

    pub named_with : (k : List ℕ) (v : V) (es : Entries V) → k ≡ name v → AreNamed name es → AreNamed name (with_entry es k v)
    named_with k v [] here h = (here, tt)
    named_with k v (e ∷ es) here h = named_step _ k e.0 v e.1 es refl here h.0 h.1 (named_with k v es here h.1)

    named_or : (b : Bool) (q l : List ℕ) (w : V) (found : Option V) → is_eq (slice_cmp nat_cmp q l) ≡ b → l ≡ name w → IfSome found (λ v. name v ≡ q)
        → IfSome (cond b (Some w) found) (λ v. name v ≡ q)
    named_or true q l w found e there later = sym there ∙ sym (tied q l e)
    named_or false q l w found e there later = later

    -- what is found bears the text that was looked for
    pub named_at : (q : List ℕ) (es : Entries V) → AreNamed name es → IfSome (find_entry q es) (λ v. name v ≡ q)
    named_at q [] h = tt
    named_at q (e ∷ es) h = named_or _ q e.0 e.1 _ refl h.0 (named_at q es h.1)

    pub named_among : (front rest : Entries V) (k : List ℕ) (v : V) → AreNamed name (front ++ (k, v) ∷ rest) → k ≡ name v
    named_among [] rest k v h = h.0
    named_among (e ∷ front) rest k v h = named_among front rest k v h.1
