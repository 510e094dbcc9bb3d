-- A stored map beside its entries.
use Rattle.std.proofs.Common.{◌≡◌, ℕ, suc, List, [], ◌∷◌, Bool, true, false, Option, Some, None, option_map, is_some, cond, length, Global, Bor, String}
use Rattle.std.proofs.Common.{string_bytes, string_cmp, nat_cmp, is_eq, Ordering, Less, Equal, Greater, refl, sym, ap, ◌∙◌}
use Rattle.std.specs.Cmp.Lexicographic.{slice_cmp}
use Rattle.std.specs.Map.{lookup, remove_entry}
use Rattle.std.specs.Ordering.{match_ordering}
use Rattle.std.specs.BTreeMap.{insert_entry, is_at}
use Rattle.broker_header.specs.Metadata.{Entries, with_entry, without_entry, find_entry, stored_entries}

abbrev Stored : Type 0
Stored = List (String Global × String Global)

-- how a text compares with a stored key
abbrev beside : List ℕ → String Global → Ordering
beside q k = slice_cmp nat_cmp q (string_bytes k)

stored-match_ordering : (o : Ordering) (a b c : Stored) → stored_entries (match_ordering o a b c)
    ≡ match_ordering o (stored_entries a) (stored_entries b) (stored_entries c)
stored-match_ordering Less a b c = refl
stored-match_ordering Equal a b c = refl
stored-match_ordering Greater a b c = refl

pub stored_with : (es : Stored) (k v : String Global) → stored_entries (insert_entry string_cmp es k v)
    ≡ with_entry (stored_entries es) (string_bytes k) (string_bytes v)
stored_with [] k v = refl
stored_with (e ∷ es) k v = stored-match_ordering (string_cmp k e.0) _ _ _ ∙ rw (stored_with es k v)

stored-cond : (b : Bool) (xs ys : Stored) → stored_entries (cond b xs ys) ≡ cond b (stored_entries xs) (stored_entries ys)
stored-cond true xs ys = refl
stored-cond false xs ys = refl

pub stored_without : (q : List ℕ) (es : Stored) → stored_entries (remove_entry (is_at (beside q)) es) ≡ without_entry q (stored_entries es)
stored_without q [] = refl
stored_without q (e ∷ es) = stored-cond (is_eq (beside q e.0)) _ _ ∙ rw (stored_without q es)

found_or : (b : Bool) (v : String Global) (rest : Option (String Global)) (found : Option (List ℕ)) → option_map string_bytes rest ≡ found
    → option_map string_bytes (cond b (Some v) rest) ≡ cond b (Some (string_bytes v)) found
found_or true v rest found e = refl
found_or false v rest found e = e

pub stored_lookup : (q : List ℕ) (es : Stored) → option_map string_bytes (lookup (is_at (beside q)) es) ≡ find_entry q (stored_entries es)
stored_lookup q [] = refl
stored_lookup q (e ∷ es) = found_or (is_eq (beside q e.0)) e.1 _ _ (stored_lookup q es)

pub stored_is_some : (o : Option (String Global)) → is_some (option_map string_bytes o) ≡ is_some o
stored_is_some None = refl
stored_is_some (Some v) = refl

pub stored_length : (es : Stored) → length (stored_entries es) ≡ length es
stored_length [] = refl
stored_length (e ∷ es) = ap (λ n. suc n) (stored_length es)

-- a map after an entry went into its stored map
pub stored_added : (was : Entries) (es new : Stored) (key value : String Global) (k v : List ℕ) → stored_entries es ≡ was
    → new ≡ insert_entry string_cmp es key value → string_bytes key ≡ k → string_bytes value ≡ v
    → stored_entries new ≡ with_entry was k v
stored_added was es new key value k v before is at_key of_value = rw (← before, is, stored_with es key value, at_key, of_value)

-- and after a key went out
pub stored_removed : (q : List ℕ) (was : Entries) (es new : Stored) → stored_entries es ≡ was → new ≡ remove_entry (is_at (beside q)) es
    → stored_entries new ≡ without_entry q was
stored_removed q was es new before is = rw (← before, is) (stored_without q es)

-- what a look-up lends
pub stored_found : (q : List ℕ) (was : Entries) (es : Stored) (v : Bor (String Global)) (text : List ℕ) → stored_entries es ≡ was
    → Some v.now ≡ lookup (is_at (beside q)) es → text ≡ string_bytes v.now
    → Some text ≡ find_entry q was
stored_found q was es v text before found is = rw (is, ← before) (ap (option_map string_bytes) found ∙ stored_lookup q es)

pub stored_none : (q : List ℕ) (was : Entries) (es : Stored) → stored_entries es ≡ was → None ≡ lookup (is_at (beside q)) es → None ≡ find_entry q was
stored_none q was es before found = rw (← before) (ap (option_map string_bytes) found ∙ stored_lookup q es)

-- whether one was there
pub stored_was : (q : List ℕ) (was : Entries) (es : Stored) (r : Option (String Global)) → stored_entries es ≡ was → r ≡ lookup (is_at (beside q)) es
    → is_some r ≡ is_some (find_entry q was)
stored_was q was es r before is = rw (← before, is, ← stored_lookup q es) (sym (stored_is_some _))

-- and that none is there any more
pub stored_gone : (q : List ℕ) (new : Stored) → lookup (is_at (beside q)) new ≡ None → find_entry q (stored_entries new) ≡ None
stored_gone q new none = sym (stored_lookup q new) ∙ ap (option_map string_bytes) none
