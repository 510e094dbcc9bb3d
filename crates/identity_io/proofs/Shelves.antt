-- Files in an ordered map, seen as the list of their paths and bytes.
use Rattle.std.proofs.Common.{◌≡◌, ◌≢◌, ℕ, List, [], ◌∷◌, map, Bool, true, false, cond, Option, Some, option_map, refl, sym, ap, ◌∙◌, Vec, String}
use Rattle.std.specs.BTreeMap as tree
use Rattle.std.specs.Cmp.Lexicographic.{slice_cmp}
use Rattle.std.specs.Ordering.{nat_cmp, is_eq}
use Rattle.std.specs.Map.{lookup}
use Rattle.std.specs.Str.{bytes_eq}
use Rattle.std.specs.String.{string_bytes, string_cmp}
use Rattle.std.proofs.lemmas.Map.Text.{is_eq-slice_cmp, btree_map_updates_text}
use Rattle.std.proofs.lemmas.Slice.Eq.{bytes_eq-Decides}
use Rattle.identity_io.specs.Files.{file_at}

abbrev pub seen : {Y A : Type 0} → List (String Y × Vec ℕ A) → List (List ℕ × List ℕ)
seen es = map (λ e. (string_bytes e.0, e.1.items)) es

same_choice : {A : Type 0} (b : Bool) (v : Vec ℕ A) (x : Option (List ℕ)) (y : Option (Vec ℕ A)) → x ≡ option_map (λ v. v.items) y
    → cond b (Some v.items) x ≡ option_map (λ v. v.items) (cond b (Some v) y)
same_choice true v x y e = refl
same_choice false v x y e = e

pub file_at_seen : {Y A : Type 0} (path : List ℕ) (es : List (String Y × Vec ℕ A))
    → file_at path (seen es) ≡ option_map (λ v. v.items) (lookup (λ k. is_eq (slice_cmp nat_cmp path (string_bytes k))) es)
file_at_seen path [] = refl
file_at_seen path (e ∷ es) =
    rw (is_eq-slice_cmp path (string_bytes e.0)) (same_choice (bytes_eq path (string_bytes e.0)) e.1 (file_at path (seen es))
    (lookup (λ k. is_eq (slice_cmp nat_cmp path (string_bytes k))) es) (file_at_seen path es))

chosen_true : {X : Type 0} (b : Bool) (x y : X) → b ≡ true → cond b x y ≡ x
chosen_true true x y e = refl
chosen_true false x y e = cc

chosen_false : {X : Type 0} (b : Bool) (x y : X) → (b ≡ true → ⊥) → cond b x y ≡ y
chosen_false true x y e = absurd (e refl)
chosen_false false x y e = refl

module _ {Y A : Type 0} (path : List ℕ) (m n : tree.BTreeMap (String Y) (Vec ℕ A)) (v : Vec ℕ A)
    (u : tree.UpdatesBy string_cmp (λ k. slice_cmp nat_cmp path (string_bytes k)) m n (Some v)) where
  pub written_at : file_at path (seen n.entries) ≡ Some v.items
  written_at =
      file_at_seen path n.entries ∙ ap (option_map (λ v. v.items))
      (btree_map_updates_text path m n (Some v) u path ∙ chosen_true (bytes_eq path path) (Some v) (tree.get_by_text m path)
      ((bytes_eq-Decides path path).1 refl))

  pub others_kept : (other : List ℕ) → other ≢ path → file_at other (seen n.entries) ≡ file_at other (seen m.entries)
  others_kept other apart =
      file_at_seen other n.entries ∙ ap (option_map (λ v. v.items))
      (btree_map_updates_text path m n (Some v) u other ∙ chosen_false (bytes_eq path other) (Some v) (tree.get_by_text m other)
      (λ e. apart (sym ((bytes_eq-Decides path other).0 e)))) ∙ sym (file_at_seen other m.entries)
