-- One byte or escape of a name further.
use Rattle.std.proofs.Common.{◌≡◌, ◌≤◌, ◌<◌, ℕ, zero, suc, List, [], ◌∷◌, ◌++◌, length, Option, Some, None, option_map, refl, sym, ap, arith, append_assoc}
use Rattle.std.proofs.Common.{append-nil}
use Rattle.spiffe_token.specs.MemberNames.{unit, resolve}

resolve_step : (n : ℕ) (bs u rest : List ℕ) → length bs ≤ n → unit bs ≡ Some (u, rest) → (k : ℕ) × (n ≡ suc k)
    × (resolve n bs ≡ option_map (λ r. u ++ r) (resolve k rest))
unfolding resolve
resolve_step n [] u rest h e = absurd (cc)
resolve_step zero (b ∷ bs) u rest h e = absurd (omega arith)
resolve_step (suc n) (b ∷ bs) u rest h e = (n, refl, rw e)

resolve_none : (n : ℕ) (bs : List ℕ) → 0 < length bs → unit bs ≡ None → resolve n bs ≡ None
unfolding resolve
resolve_none n [] some e = absurd (omega arith)
resolve_none zero (b ∷ bs) some e = refl
resolve_none (suc n) (b ∷ bs) some e = rw e

resolve_end : (n : ℕ) (bs : List ℕ) → length bs ≡ 0 → resolve n bs ≡ Some []
unfolding resolve
resolve_end n [] e = refl
resolve_end n (b ∷ bs) e = absurd (omega arith)

both : (out u : List ℕ) (o : Option (List ℕ)) → option_map (λ r. out ++ r) (option_map (λ r. u ++ r) o) ≡ option_map (λ r. (out ++ u) ++ r) o
both out u None = refl
both out u (Some r) = ap Some (sym (append_assoc out u r))

module _ (n : ℕ) (bs out : List ℕ) (all : Option (List ℕ)) (small : length bs ≤ n) (so_far : all ≡ option_map (λ r. out ++ r) (resolve n bs)) where
  pub went_on : (u next new : List ℕ) → unit bs ≡ Some (u, next) → length next < length bs → new ≡ out ++ u
      → (k : ℕ) × (length next ≤ k) × (all ≡ option_map (λ r. new ++ r) (resolve k next))
  went_on u next new is shorter push =
      let s = resolve_step n bs u next small is in
      let len : length next ≤ s.0 = omega arith in
      (s.0, len, rw (so_far, s.2, push) (both out u (resolve s.0 next)))

  pub failed : 0 < length bs → unit bs ≡ None → None ≡ all
  failed some is = rw (so_far, resolve_none n bs some is)

  pub done : length bs ≡ 0 → Some out ≡ all
  done nothing = rw (so_far, resolve_end n bs nothing) (ap Some (sym (append-nil out)))
