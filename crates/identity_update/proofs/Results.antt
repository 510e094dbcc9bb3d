-- Answers that a rule passes on.
use Rattle.std.proofs.Common.{◌≡◌, List, [], ◌∷◌, ◌++◌, map, Result, Ok, Err, IfErr, IsErrAnd, refl, ap, ◌∙◌, append_assoc}
use Rattle.std.proofs.lemmas.List.{map-append}
use Rattle.spiffe_id.specs.Rules.{map_ok}
use Rattle.identity_update.specs.declared.error.UpdateError.{UpdateError}

-- a refusal that is passed on
pub passed_on : {X : Type 0} (P : UpdateError → Type 0) (r : Result X UpdateError) (e : UpdateError) → IsErrAnd r (λ y. y ≡ e) → P e → IfErr r P
passed_on P (Ok x) e is p = tt
passed_on P (Err y) e is p = rw is p

-- one more value before the others
pub one_more : {A B E : Type 0} (f : A → B) (old new : List A) (a : A) (more : Result (List B) E) → new ≡ old ++ a ∷ []
    → map_ok (λ others. map f new ++ others) more ≡ map_ok (λ others. map f old ++ others) (map_ok (λ others. f a ∷ others) more)
one_more {B = B} {E = E} f old new a (Ok others) is =
    let ok : List B → Result (List B) E = λ x. Ok x in
    ap ok (ap (λ x. map f x ++ others) is ∙ ap (λ x. x ++ others) (map-append f old (a ∷ [])) ∙ append_assoc (map f old) (f a ∷ []) others)
one_more f old new a (Err e) is = refl
