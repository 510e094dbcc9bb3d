-- Lists of states and their beginnings.
use Rattle.std.proofs.Common.{◌≡◌, ℕ, ◌+◌, ◌≤◌, Bool, true, false, cond, take, drop, length-append, List, [], ◌∷◌, ◌++◌, length, refl, sym, ap, ◌∙◌, subst}
use Rattle.std.proofs.Common.{append_assoc, append-nil, arith}
use Rattle.std.proofs.lemmas.List.{take-append-le, take-append-drop}
use Rattle.identity_source.specs.State.{PlainState, IsOpening}
use Rattle.identity_source.specs.History.{Follows, IsHistory, StartsWith, EndsWith, first_revision, last_from, last_revision}

-- what holds of both lists holds of the one that is chosen
pub either : (P : List PlainState → Type 0) (xs ys : List PlainState) (b : Bool) → P xs → P ys → P (cond b ys xs)
either P xs ys true p q = q
either P xs ys false p q = p

pub begins_self : (xs : List PlainState) → StartsWith xs xs
begins_self xs = ([], sym (append-nil xs))

pub begins_through : (xs ys zs : List PlainState) → StartsWith xs ys → StartsWith ys zs → StartsWith xs zs
begins_through xs ys zs t u = (u.0 ++ t.0, t.1 ∙ (ap (λ (z : List PlainState). z ++ t.0) u.1 ∙ append_assoc zs u.0 t.0))

pub begins_take : (n : ℕ) (xs ys : List PlainState) → StartsWith xs ys → StartsWith xs (take n ys)
begins_take n xs ys t = (
  drop n ys ++ t.0,
  t.1 ∙ (ap (λ (z : List PlainState). z ++ t.0) (sym (take-append-drop n ys))
      ∙ append_assoc (take n ys) (drop n ys) t.0),
)

pub take_begins : (n : ℕ) (xs ys : List PlainState) → StartsWith ys xs → n ≤ length xs → take n ys ≡ take n xs
take_begins n xs ys t le = ap (take n) t.1 ∙ take-append-le n xs t.0 le

first_append : (xs ys : List PlainState) → IsHistory xs → first_revision (xs ++ ys) ≡ first_revision xs
first_append [] ys h = absurd h
first_append (x ∷ xs) ys h = refl

pub first_begins : (xs old : List PlainState) → StartsWith xs old → IsHistory old → first_revision xs ≡ first_revision old
first_begins xs old t h = ap first_revision t.1 ∙ first_append old t.0 h

-- where a history ends
follows_count : (r : ℕ) (bs : List PlainState) (x : PlainState) → Follows r (bs ++ x ∷ []) → x.revision ≡ r + 1 + length bs
follows_count r [] x h = let a : x.revision ≡ r + 1 = h.0 in omega arith
follows_count r (b ∷ bs) x h = let a : x.revision ≡ r + 1 + 1 + length bs = follows_count (r + 1) bs x h.2 in omega arith

counted_parts : (before : List PlainState) (x : PlainState) → IsHistory (before ++ x ∷ [])
    → x.revision + 1 ≡ first_revision (before ++ x ∷ []) + length (before ++ x ∷ [])
counted_parts [] x h = omega arith
counted_parts (b ∷ bs) x h = let a : x.revision ≡ b.revision + 1 + length bs = follows_count b.revision bs x h.1 in
    let e : length (bs ++ x ∷ []) ≡ length bs + 1 = length-append bs (x ∷ []) in omega arith

pub counted : (xs : List PlainState) (x : PlainState) → IsHistory xs → EndsWith xs x → x.revision + 1 ≡ first_revision xs + length xs
counted xs x h t = subst (λ (z : List PlainState). x.revision + 1 ≡ first_revision z + length z) (sym t.1) (counted_parts t.0 x (subst IsHistory t.1 h))

-- a history goes on by a state of the next revision that is no opening one
follows_after : (r : ℕ) (xs : List PlainState) (y : PlainState) → Follows r xs → y.revision ≡ last_from r xs + 1 → (IsOpening y → ⊥) → Follows r (xs ++ y ∷ [])
follows_after r [] y h up no_opening = (up, no_opening, tt)
follows_after r (x ∷ xs) y h up no_opening = let up' : y.revision ≡ last_from (r + 1) xs + 1 = up ∙ ap (λ n. last_from n xs + 1) h.0 in
    (h.0, h.1, follows_after (r + 1) xs y h.2 up' no_opening)

pub goes_after : (xs : List PlainState) (y : PlainState) → IsHistory xs → y.revision ≡ last_revision xs + 1 → (IsOpening y → ⊥) → IsHistory (xs ++ y ∷ [])
goes_after [] y h up no_opening = absurd h
goes_after (x ∷ xs) y h up no_opening = (h.0, follows_after x.revision xs y h.1 up no_opening)

last_from_end : (r : ℕ) (before : List PlainState) (x : PlainState) → last_from r (before ++ x ∷ []) ≡ x.revision
last_from_end r [] x = refl
last_from_end r (b ∷ bs) x = last_from_end b.revision bs x

pub ends_at : (xs : List PlainState) (x : PlainState) → EndsWith xs x → last_revision xs ≡ x.revision
ends_at xs x t = ap last_revision t.1 ∙ last_from_end 0 t.0 x
