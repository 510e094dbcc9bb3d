-- Each step keeps the rule.
use Rattle.std.proofs.Common.{◌≡◌, ◌≢◌, ℕ, Option, Some, None, List, [], ◌∷◌, ◌++◌, set, fold, refl, sym, ap, ◌∙◌, subst, ⊎_elim}
use mathlib.Core.Option.{some}
use lib.ListN.{get_elem?}
use Rattle.crossbeam_utils.specs.Register.{Admits, Turns, TurnsAt, Forks, Merges}
use Rattle.atomic_table.proofs.Lists.{at_set, at_snoc}
use Rattle.identity_source.specs.History.{StartsWith}
use Rattle.identity_source.specs.NamedList.{NamedList}
use Rattle.identity_source.specs.Rule.{Knows, Keeps, Sees}
use Rattle.identity_source.proofs.Histories.{begins_self, begins_through}

-- what a seat knows stays true of a list that goes on
pub goes_along : (x y : NamedList) (v : Option NamedList) → y.name ≡ x.name → StartsWith y.list x.list → Knows x v → Knows y v
goes_along x y None e more k = tt
goes_along x y (Some h) e more k = (e ∙ k.0, begins_through y.list x.list h.list more k.1)

-- one seat has a new view
other : (x : NamedList) (views : List (Option NamedList)) (seat : ℕ) (w : Option NamedList) → Knows x w → Keeps x views → Keeps x (set views seat w)
other x views seat w here keeps j u e = ⊎_elim (λ (t : (j ≡ seat) × (w ≡ u)). subst (Knows x) t.1 here)
    (λ (t : (j ≢ seat) × (get_elem? views j ≡ some u)). keeps j u t.1) (at_set views seat j w u e)

one_more : (x : NamedList) (views : List (Option NamedList)) (w : Option NamedList) → Knows x w → Keeps x views → Keeps x (views ++ w ∷ [])
one_more x views w here keeps j u e = ⊎_elim (λ t. keeps j u t) (λ t. subst (Knows x) t here) (at_snoc views w u j e)

pub admits : Admits Keeps None
admits x views keeps = one_more x views None tt keeps

pub shows : (seat : ℕ) (v : Option NamedList) (x y : NamedList) → y.name ≡ x.name → StartsWith y.list x.list → TurnsAt Keeps seat v x y Sees
shows seat v x y e more views keeps at = (
  Some y,
  other y views seat (Some y) (refl, begins_self y.list) (λ j u there. goes_along x y u e more (keeps j u there)),
  (refl, goes_along x y v e more (keeps seat v at)),
)

pub takes : (seat : ℕ) (v : Option NamedList) → Turns Keeps seat v (λ x. x) Sees
takes seat v x = shows seat v x x refl (begins_self x.list)

pub tells : (seat : ℕ) (v : Option NamedList) → Forks Keeps seat v v v
tells seat v x views keeps at = one_more x (set views seat v) v (keeps seat v at) (other x views seat v (keeps seat v at) keeps)

pub learns : (seat : ℕ) (v : Option NamedList) (from : ℕ) (n : Option NamedList) → Merges Keeps seat v from n n None
learns seat v from n x views keeps at apart there =
    let note : Knows x n = ⊎_elim (λ (t : (from ≡ seat) × (n ≡ n)). absurd (apart t.0))
    (λ (t : (from ≢ seat) × (get_elem? views from ≡ some n)). keeps from n t.1) (at_set views seat from n n there) in
    other x (set views seat n) from None tt (other x views seat n note keeps)

-- each operation replaces the whole state
replaces : (s : NamedList) (xs : List NamedList) (x : NamedList) → fold (λ (_ : NamedList) (o : NamedList). o) s (xs ++ x ∷ []) ≡ x
replaces s [] x = refl
replaces s (y ∷ ys) x = replaces y ys x

pub replaces_at : (s next : NamedList) (ops before : List NamedList) (x : NamedList) → next ≡ fold (λ (_ : NamedList) (o : NamedList). o) s ops
    → ops ≡ before ++ x ∷ [] → next ≡ x
replaces_at s next ops before x is e = is ∙ (ap (fold (λ (_ : NamedList) (o : NamedList). o) s) e ∙ replaces s before x)

pub shows_next : (seat : ℕ) (v : Option NamedList) (x x' y y' : NamedList) → x' ≡ x → y' ≡ y → y.name ≡ x.name → StartsWith y.list x.list
    → TurnsAt Keeps seat v x' y' Sees
shows_next seat v x x' y y' ex ey e more = subst (λ (p : NamedList × NamedList). TurnsAt Keeps seat v p.0 p.1 Sees) (λ i. (sym ex i, sym ey i))
    (shows seat v x y e more)

pub may_show_same : (y x : NamedList) → y ≡ x → (y.name ≡ x.name) × StartsWith y.list x.list
may_show_same y x e = (ap (λ h. h.name) e, subst (λ (z : NamedList). StartsWith y.list z.list) e (begins_self y.list))
