-- A revision names one state of a list.
use Rattle.std.proofs.Common.{◌≡◌, ℕ, ◌+◌, List, [], ◌∷◌, ◌++◌, length, length-append, append-nil, refl, sym, ap, ◌∙◌, subst, arith}
use Rattle.std.proofs.lemmas.List.{nil_from_length}
use Rattle.identity_source.specs.State.{PlainState}
use Rattle.identity_source.specs.History.{EndsWith, IsHistory, StartsWith, first_revision}
use Rattle.identity_source.proofs.Histories.{counted, first_begins}

abbrev last_of : PlainState → List PlainState → PlainState
last_of x [] = x
last_of x (y ∷ ys) = last_of y ys

last_end : (x : PlainState) (before : List PlainState) (y : PlainState) → last_of x (before ++ y ∷ []) ≡ y
last_end x [] y = refl
last_end x (b ∷ bs) y = last_end b bs y

pub one_last : (xs : List PlainState) (x y : PlainState) → EndsWith xs x → EndsWith xs y → y ≡ x
one_last xs x y s t = sym (last_end x t.0 y) ∙ (ap (last_of x) (sym t.1 ∙ s.1) ∙ last_end x s.0 x)

pub same_revision : (whole seen : List PlainState) (x y : PlainState) → IsHistory whole → IsHistory seen → StartsWith whole seen
    → EndsWith seen x → EndsWith whole y → y.revision ≡ x.revision → y ≡ x
same_revision whole seen x y w s begins ends_seen ends_whole same =
    let count : y.revision + 1 ≡ first_revision whole + length whole = counted whole y w ends_whole in
    let count' : x.revision + 1 ≡ first_revision seen + length seen = counted seen x s ends_seen in
    let first : first_revision whole ≡ first_revision seen = first_begins whole seen begins s in
    let lengths : length whole ≡ length seen + length begins.0 = ap length begins.1 ∙ length-append seen begins.0 in
    let none : begins.0 ≡ [] = nil_from_length begins.0 (omega arith) in
    let all : whole ≡ seen = begins.1 ∙ (ap (λ (z : List PlainState). seen ++ z) none ∙ append-nil seen) in
    one_last seen x y ends_seen (subst (λ (z : List PlainState). EndsWith z y) all ends_whole)
