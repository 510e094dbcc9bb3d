-- What holds of a value holds of the keys in it.
use Rattle.std.proofs.Common.{◌⊎◌, inl, inr, ◌≡◌, ◌≤◌, ℕ, ◌+◌, Bool, false, ◌||◌, List, Option, Some, None, Ok, option_and_then, codes, Ordering, Less, Equal}
use Rattle.std.proofs.Common.{Greater, ap, arith}
use Rattle.std.specs.Ordering.{match_ordering, nat_cmp}
use Rattle.std.specs.Cmp.Lexicographic.{slice_cmp}
use Rattle.serde_json.specs.Data.{Data, array, object, Items, Members, no_members, member, depth, items_depth, members_depth}
use Rattle.serde_json.specs.Find.{get, get_member, as_array}
use Rattle.serde_json.specs.Written.{has_float, items_have_float, members_have_float}
use Rattle.spiffe_bundle.specs.KeySet.{keys_array, keys_of}

neither : (a b : Bool) → (a || b) ≡ false → (a ≡ false) × (b ≡ false)
neither a b e = (grind arith, grind arith)

-- what a look-up finds is a member
found : (o : Ordering) (rest : Option Data) (d e : Data) → match_ordering o rest (Some d) rest ≡ Some e → (d ≡ e) ⊎ (rest ≡ Some e)
found Less rest d e is = inr is
found Equal rest d e is = inl (cc)
found Greater rest d e is = inr is

member_whole : (k : List ℕ) (ms : Members) (e : Data) → get_member k ms ≡ Some e → members_have_float ms ≡ false → has_float e ≡ false
member_whole k no_members e is whole = cc
member_whole k (member l d ms) e is whole =
    let w = neither _ _ whole in
    elim (found (slice_cmp nat_cmp k l) (get_member k ms) d e is) [ inl same ↦ rw (← same) w.0 | inr later ↦ member_whole k ms e later w.1 ]

member_nests : (k : List ℕ) (ms : Members) (e : Data) → get_member k ms ≡ Some e → depth e ≤ members_depth ms
member_nests k no_members e is = cc
member_nests k (member l d ms) e is =
    elim (found (slice_cmp nat_cmp k l) (get_member k ms) d e is)
    [ inl same ↦ rw (← same) (omega arith) | inr later ↦ omega (arith, member_nests k ms e later) ]

the_array : (d : Data) (items : Items) → as_array d ≡ Some items → d ≡ array items
the_array (array ds) items e = cc
the_array _ items e = cc

some_array : (o : Option Data) (items : Items) → option_and_then as_array o ≡ Some items → o ≡ Some (array items)
some_array None items e = cc
some_array (Some d) items e = ap Some (the_array d items e)

array_whole : (k : List ℕ) (d : Data) (items : Items) → option_and_then as_array (get k d) ≡ Some items → has_float d ≡ false → items_have_float items ≡ false
array_whole k (object ms) items e whole = member_whole k ms (array items) (some_array (get_member k ms) items e) whole
array_whole k _ items e whole = cc

-- an array in an object nests two levels less
pub array_nests : (k : List ℕ) (d : Data) (items : Items) → option_and_then as_array (get k d) ≡ Some items → items_depth items + 2 ≤ depth d
array_nests k (object ms) items e = omega (arith, member_nests k ms (array items) (some_array (get_member k ms) items e))
array_nests k _ items e = cc

is_array : (o : Option Items) (items : Items) → keys_array o ≡ Ok items → o ≡ Some items
is_array None items e = cc
is_array (Some ds) items e = cc

pub keys_whole : (d : Data) (items : Items) → keys_of d ≡ Ok items → has_float d ≡ false → items_have_float items ≡ false
keys_whole d items e whole = array_whole (codes "keys") d items (is_array (option_and_then as_array (get (codes "keys") d)) items e) whole

pub keys_nest : (d : Data) (items : Items) → keys_of d ≡ Ok items → items_depth items ≤ depth d
keys_nest d items e = omega (arith, array_nests (codes "keys") d items (is_array (option_and_then as_array (get (codes "keys") d)) items e))
