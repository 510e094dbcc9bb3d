-- Lists under one book, by the lengths of their logs.
use Rattle.std.proofs.Common.{◌≡◌, ℕ, ◌+◌, ◌<◌, ◌≤◌, nat_le, Bool, true, false, cond, MatchBool, List, [], ◌∷◌, ◌++◌, length, refl, ap, sym, ◌∙◌, subst}
use Rattle.std.proofs.Common.{⊎_elim, append_assoc, append-nil, length-append, arith}
use Rattle.std.proofs.lemmas.Bool.Decides.{leb_tells}
use mathlib.Core.List.{IsPrefix}
use Rattle.round_log.proofs.Prefixes.{prefix_shorter, prefix_whole}
use Rattle.identity_source.specs.State.{PlainState}
use Rattle.identity_source.specs.declared.attempt.Attempt.{Attempt}
use Rattle.identity_source.specs.History.{StartsWith}
use Rattle.identity_source.specs.Attempts.{tried, finished, committed, IsPublished, IsMark}

one_more : (b : Bool) (s : PlainState) (all xs ys : List PlainState) → all ≡ xs ++ ys → cond b (s ∷ all) all ≡ cond b (s ∷ xs) xs ++ ys
one_more true s all xs ys e = ap (λ (z : List PlainState). s ∷ z) e
one_more false s all xs ys e = e

pub committed_append : (xs ys : List Attempt) → committed (xs ++ ys) ≡ committed xs ++ committed ys
committed_append [] ys = refl
committed_append (e ∷ xs) ys = one_more e.done e.state (committed (xs ++ ys)) (committed xs) (committed ys) (committed_append xs ys)

abbrev last_state : PlainState → List Attempt → PlainState
last_state d [] = d
last_state d (e ∷ es) = last_state e.state es

last_is : (d : PlainState) (bs : List Attempt) (x : PlainState) → last_state d (bs ++ tried x ∷ []) ≡ x
last_is d [] x = refl
last_is d (b ∷ bs) x = last_is b.state bs x

begins_committed : (a b : List Attempt) → IsPrefix a b → StartsWith (committed b) (committed a)
begins_committed a b p = (committed p.0, ap committed (sym p.1) ∙ committed_append a p.0)

begins_snoc : (xs ys : List PlainState) (x : PlainState) → StartsWith xs ys → StartsWith (xs ++ x ∷ []) ys
begins_snoc xs ys x t = (t.0 ++ x ∷ [], ap (λ (z : List PlainState). z ++ x ∷ []) t.1 ∙ append_assoc ys t.0 (x ∷ []))

-- what was published no earlier than the mark begins with the mark's list: the mark is of an earlier round, or of the same one
pub covers_published : (log mark : List Attempt) (x y : PlainState) (len place : ℕ) → IsPublished log x len → IsMark mark y place
    → (length log ≤ length mark → IsPrefix log mark) → (length mark ≤ length log → IsPrefix mark log) → place ≤ len
    → StartsWith (committed log ++ x ∷ []) (committed mark)
covers_published log mark x y len place s m first second le =
    ⊎_elim
    (λ (t : (nat_le (place + 1) len ≡ true) × (place + 1 ≤ len)). begins_snoc (committed log) (committed mark) x
    (begins_committed mark log (second (omega (arith, m.length_is, s.length_is, t.1)))))
    (λ (t : (nat_le (place + 1) len ≡ false) × (len < place + 1)).
    let front : List Attempt = m.before ++ tried y ∷ [] in
    let pf : IsPrefix front mark = (finished y ∷ [], sym m.log_is) in
    let long : length mark ≡ length front + 1 = ap length m.log_is ∙ length-append front (finished y ∷ []) in
    let same : front ≡ log = prefix_whole front log (prefix_shorter front log mark pf (first (omega (arith, m.length_is, s.length_is, le, t.1)))
    (omega (arith, long, m.length_is, s.length_is, le, t.1))) (omega (arith, long, m.length_is, s.length_is, le, t.1)) in
    let last : y ≡ x = sym (last_is x m.before y) ∙ (ap (last_state x) (same ∙ s.log_is) ∙ last_is x s.before x) in
    let list : committed mark ≡ committed log ++ x ∷ [] = ap committed m.log_is
    ∙ (committed_append front (finished y ∷ []) ∙ (λ i. committed (same i) ++ last i ∷ [])) in
    ([], sym list ∙ sym (append-nil (committed mark))))
    (leb_tells (place + 1) len)

pub covers_mark : (log mark : List Attempt) (x y : PlainState) (len place : ℕ) → IsMark log x len → IsMark mark y place
    → (length mark ≤ length log → IsPrefix mark log) → place ≤ len
    → StartsWith (committed log) (committed mark)
covers_mark log mark x y len place s m second le = begins_committed mark log (second (omega (arith, m.length_is, s.length_is, le)))

pub tells : (m n : ℕ) (P Q : Type 0) → (m ≤ n → P) → (n < m → Q) → MatchBool (nat_le m n) P Q
tells m n P Q p q = ⊎_elim (λ (t : (nat_le m n ≡ true) × (m ≤ n)). subst (λ b. MatchBool b P Q) (sym t.0) (p t.1))
    (λ (t : (nat_le m n ≡ false) × (n < m)). subst (λ b. MatchBool b P Q) (sym t.0) (q t.1)) (leb_tells m n)
