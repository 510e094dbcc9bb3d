-- A map from texts at a text, after an entry went in or out.
use Rattle.std.proofs.Common.{◌≡◌, ℕ, List, [], ◌∷◌, Some, Bool, true, false, cond, nat_cmp, is_eq, bytes_eq, Ordering, Less, Equal, Greater, refl, sym, ap}
use Rattle.std.proofs.Common.{◌∙◌}
use Rattle.std.proofs.lemmas.Cmp.{nat_list_cmp_total, tied_itself}
use Rattle.std.proofs.lemmas.Map.Text.{is_eq-slice_cmp}
use Rattle.std.proofs.lemmas.Slice.Eq.{bytes_eq-Decides}
use Rattle.std.specs.Cmp.Lexicographic.{slice_cmp}
use Rattle.std.specs.Map.{lookup}
use Rattle.std.specs.Ordering.{match_ordering}
use Rattle.std.specs.BTreeMap.{insert_entry, is_at}
use Rattle.broker_header.specs.Metadata.{Entries, with_entry, without_entry, find_entry}

same_text : (xs : List ℕ) → slice_cmp nat_cmp xs xs ≡ Equal
same_text xs = tied_itself nat_list_cmp_total xs

tied : (xs ys : List ℕ) → is_eq (slice_cmp nat_cmp xs ys) ≡ true → xs ≡ ys
tied xs ys e = (bytes_eq-Decides xs ys).0 (sym (is_eq-slice_cmp xs ys) ∙ e)

differ : (xs ys : List ℕ) (b : Bool) → bytes_eq xs ys ≡ b → (xs ≡ ys → ⊥) → b ≡ false
differ xs ys true e other = absurd (other ((bytes_eq-Decides xs ys).0 e))
differ xs ys false e other = refl

apart : (xs ys : List ℕ) → (xs ≡ ys → ⊥) → is_eq (slice_cmp nat_cmp xs ys) ≡ false
apart xs ys other = is_eq-slice_cmp xs ys ∙ differ xs ys _ refl other

at_same : (o : Ordering) (k l : List ℕ) (v w : List ℕ) (es : Entries) → slice_cmp nat_cmp k l ≡ o
    → lookup (is_at (slice_cmp nat_cmp k)) (insert_entry (slice_cmp nat_cmp) es k v) ≡ Some v
    → lookup (is_at (slice_cmp nat_cmp k)) (match_ordering o ((k, v) ∷ (l, w) ∷ es) ((l, v) ∷ es) ((l, w) ∷ insert_entry (slice_cmp nat_cmp) es k v)) ≡ Some v
at_same Less k l v w es is later = rw same_text
at_same Equal k l v w es is later = rw is
at_same Greater k l v w es is later = rw is later

-- what went in is found
pub found_same : (k v : List ℕ) (es : Entries) → find_entry k (with_entry es k v) ≡ Some v
found_same k v [] = rw same_text
found_same k v (e ∷ es) = at_same _ k e.0 v e.1 es refl (found_same k v es)

at_other : (o : Ordering) (q k l : List ℕ) (v w : List ℕ) (es : Entries) → slice_cmp nat_cmp k l ≡ o → (q ≡ k → ⊥)
    → lookup (is_at (slice_cmp nat_cmp q)) (insert_entry (slice_cmp nat_cmp) es k v) ≡ lookup (is_at (slice_cmp nat_cmp q)) es
    → lookup (is_at (slice_cmp nat_cmp q)) (match_ordering o ((k, v) ∷ (l, w) ∷ es) ((l, v) ∷ es) ((l, w) ∷ insert_entry (slice_cmp nat_cmp) es k v))
    ≡ lookup (is_at (slice_cmp nat_cmp q)) ((l, w) ∷ es)
at_other Less q k l v w es is other later = rw (apart q k other)
at_other Equal q k l v w es is other later =
    let same : k ≡ l = tied k l (ap is_eq is) in
    rw (apart q l (λ h. other (h ∙ sym same)))
at_other Greater q k l v w es is other later = ap (λ r. cond (is_eq (slice_cmp nat_cmp q l)) (Some w) r) later

-- and all others are as before
pub found_other : (q k v : List ℕ) (es : Entries) → (q ≡ k → ⊥) → find_entry q (with_entry es k v) ≡ find_entry q es
found_other q k v [] other = rw (apart q k other)
found_other q k v (e ∷ es) other = at_other _ q k e.0 v e.1 es refl other (found_other q k v es other)

other_left : (here : Bool) (q k l w : List ℕ) (es : Entries) → is_eq (slice_cmp nat_cmp k l) ≡ here → (q ≡ k → ⊥)
    → find_entry q (without_entry k es) ≡ find_entry q es → find_entry q (cond here es ((l, w) ∷ without_entry k es)) ≡ find_entry q ((l, w) ∷ es)
other_left true q k l w es is other later = rw (apart q l (λ h. other (h ∙ sym (tied k l is))))
other_left false q k l w es is other later = ap (λ r. cond (is_eq (slice_cmp nat_cmp q l)) (Some w) r) later

-- all others are as before where a key went out
pub left_other : (q k : List ℕ) (es : Entries) → (q ≡ k → ⊥) → find_entry q (without_entry k es) ≡ find_entry q es
left_other q k [] other = refl
left_other q k (e ∷ es) other = other_left _ q k e.0 e.1 es refl other (left_other q k es other)
