-- A map from texts, as the list of its entries in ascending order of the texts' bytes.
use Rattle.std.specs.Prelude.{◌≡◌, ℕ, nat_eq, List, Bool, ◌&&◌, Option, map}
use Rattle.std.specs.declared.alloc.Global.{Global}
use Rattle.std.specs.declared.sync.Arc.{Arc}
use Rattle.std.specs.Arc.{arc_value}
use Rattle.std.specs.Ordering.{nat_cmp}
use Rattle.std.specs.Cmp.{IsEquivalence, and_equiv, on_equiv}
use Rattle.std.specs.Cmp.Lexicographic.{pointwise, slice_cmp, lists_equiv, nat_list_eq_equiv}
use Rattle.std.specs.List.{AllByRecursion}
use Rattle.std.specs.List.Sorted.{IsStrictlySortedBy}
use Rattle.std.specs.Map.{lookup, keys_of}
use Rattle.std.specs.BTreeMap.{insert_entry, is_at}

abbrev pub Entries : Type 0 → Type 0
Entries V = List (List ℕ × V)

-- the map with v at k, in place of what was there
abbrev pub with_entry : {V : Type 0} → Entries V → List ℕ → V → Entries V
with_entry es k v = insert_entry (slice_cmp nat_cmp) es k v

abbrev pub find_entry : {V : Type 0} → List ℕ → Entries V → Option V
find_entry k es = lookup (is_at (slice_cmp nat_cmp k)) es

-- each text is below those after it, so it stands once
abbrev pub IsAscending : {V : Type 0} → Entries V → Type 0
IsAscending es = IsStrictlySortedBy (slice_cmp nat_cmp) (keys_of es)

-- each value stands at the text that it bears
abbrev pub AreNamed : {V : Type 0} → (V → List ℕ) → Entries V → Type 0
AreNamed name es = AllByRecursion (λ e. e.0 ≡ name e.1) es

-- equal texts in turn, and values that `eq` holds equal
abbrev pub entries_eq : {V : Type 0} → (V → V → Bool) → Entries V → Entries V → Bool
entries_eq eq = pointwise (λ p q. pointwise nat_eq p.0 q.0 && eq p.1 q.1)

pub entries_equiv : {V : Type 0} {eq : V → V → Bool} → IsEquivalence eq → IsEquivalence (entries_eq eq)
entries_equiv values = lists_equiv (and_equiv (on_equiv (λ p. p.0) nat_list_eq_equiv) (on_equiv (λ p. p.1) values))

-- the entries of a stored map, whose values are shared
abbrev pub stored_entries : {K V : Type 0} → (K → List ℕ) → List (K × Arc V Global) → Entries V
stored_entries text es = map (λ e. (text e.0, arc_value e.1)) es
