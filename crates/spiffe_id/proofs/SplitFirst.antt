-- What `split_once` finds, as the function `split_first`.
use Rattle.std.proofs.Common.{◌≡◌, ◌≢◌, ◌<◌, ◌≤◌, ℕ, zero, suc, Bool, true, false, List, [], ◌∷◌, ◌++◌, length, take, drop, map, Some, None, Err, refl, arith}
use Rattle.std.proofs.Common.{nat_eq, codes, length-append, length-drop, ap, lit<}
use Rattle.std.specs.List.{starts_with}
use Rattle.std.specs.Str.Pattern.{LacksTextAt, FindsText, SplitsAroundMatch, HasMatch}
use Rattle.std.specs.Char.{to_ascii_lowercase}
use Rattle.std.specs.Bool.{Decides, one_answer, MatchBool}
use Rattle.std.proofs.lemmas.Slice.Eq.{starts_is, bytes_eq-Decides}
use Rattle.std.proofs.lemmas.Bool.Decides.{Decides-eqb}
use Rattle.std.proofs.lemmas.List.Prefix.{front_rest}
use Rattle.spiffe_id.specs.declared.error.SpiffeIdError.TheVariants.{WrongScheme}
use Rattle.spiffe_id.specs.Scheme.{split_first, after_scheme, has_spiffe_scheme, if_spiffe_scheme, is_spiffe_scheme}
use Rattle.spiffe_id.specs.TrustDomain.{contains_text}

is_false : (b : Bool) → (b ≡ true → ⊥) → b ≡ false
is_false true h = absurd (h refl)
is_false false h = refl

starts_true : (s p rest : List ℕ) → s ≡ p ++ rest → starts_with nat_eq s p ≡ true
starts_true s p rest e = (starts_is Decides-eqb s p _ refl).1 rest e

starts_false : (s p : List ℕ) → ((rest : List ℕ) → s ≢ p ++ rest) → starts_with nat_eq s p ≡ false
starts_false s p lacks = is_false _ (λ e. lacks _ ((starts_is Decides-eqb s p _ refl).0 e))

split_first_found : (sep bs rest : List ℕ) (i : ℕ) → 0 < length sep → ((k : ℕ) → k < i → LacksTextAt sep bs k) → drop i bs ≡ sep ++ rest
    → split_first sep bs ≡ Some (take i bs, rest)
split_first_found sep [] rest i pos lacks e = absurd (omega (arith, ap length e, length-append sep rest, length-drop {A = ℕ} i []))
split_first_found sep (b ∷ bs) rest zero pos lacks e = rw (starts_true (b ∷ bs) sep rest e, front_rest (b ∷ bs) sep rest e)
split_first_found sep (b ∷ bs) rest (suc i) pos lacks e =
    rw (starts_false (b ∷ bs) sep (λ more. lacks 0 (omega arith) more), split_first_found sep bs rest i pos (λ k h. lacks (suc k) (omega arith)) e)

split_first_none : (sep bs : List ℕ) → ((i : ℕ) → i ≤ length bs → LacksTextAt sep bs i) → split_first sep bs ≡ None
split_first_none sep [] lacks = refl
split_first_none sep (b ∷ bs) lacks =
    rw (starts_false (b ∷ bs) sep (λ more. lacks 0 (omega arith) more), split_first_none sep bs (λ k h. lacks (suc k) (omega arith)))

pub after_scheme_found : (text front back : List ℕ) → SplitsAroundMatch (FindsText (codes "://")) text front back
    → after_scheme text ≡ if_spiffe_scheme (Some (front, back))
unfolding after_scheme
after_scheme_found text front back m =
    let split : drop m.0 text ≡ codes "://" ++ back = rw m.4 m.2.1.split in
    rw (split_first_found (codes "://") text back m.0 (lit< tt) m.2.0 split, m.3)

pub after_scheme_none : (text : List ℕ) → FindsText (codes "://") text None → after_scheme text ≡ Err WrongScheme
unfolding after_scheme
after_scheme_none text m = rw (split_first_none (codes "://") text m)

pub has_scheme_found : (text front back : List ℕ) → SplitsAroundMatch (FindsText (codes "://")) text front back
    → has_spiffe_scheme text ≡ is_spiffe_scheme front
unfolding has_spiffe_scheme
has_scheme_found text front back m =
    let split : drop m.0 text ≡ codes "://" ++ back = rw m.4 m.2.1.split in
    rw (split_first_found (codes "://") text back m.0 (lit< tt) m.2.0 split, m.3)

pub has_scheme_none : (text : List ℕ) → FindsText (codes "://") text None → has_spiffe_scheme text ≡ false
unfolding has_spiffe_scheme
has_scheme_none text m = rw (split_first_none (codes "://") text m)

-- `eq_ignore_ascii_case` at the scheme
pub scheme_is : (r : Bool) (scheme : List ℕ) → Decides r (map to_ascii_lowercase scheme ≡ codes "spiffe") → is_spiffe_scheme scheme ≡ r
scheme_is r scheme d = one_answer _ r (bytes_eq-Decides (map to_ascii_lowercase scheme) (codes "spiffe")) d

pub contains_text_is : (r : Bool) (part text : List ℕ) → 0 < length part → MatchBool r (HasMatch (FindsText part) text) (FindsText part text None)
    → r ≡ contains_text part text
contains_text_is true part text pos m = rw (split_first_found part text _ m.0 pos m.2.0 m.2.1.split)
contains_text_is false part text pos m = rw (split_first_none part text m)
