-- The cap is above every time.
use Rattle.std.proofs.Common.{◌≡◌, ℕ, zero, suc, ◌<◌, ◌≤◌, Bool, true, false, ℤ, Option, Some, None, option_map, option_and_then, sym, ◌∙◌, arith, ◌⊎◌, inl}
use Rattle.std.proofs.Common.{inr}
use Rattle.std.proofs.lemmas.Bool.{cases_lt}
use Rattle.std.proofs.lemmas.Bool.Decides.{nat_tests}
use Rattle.std.proofs.lemmas.Int.{ints}
use Rattle.token_time.specs.Decimal.{capped}
use Rattle.token_time.specs.Nanoseconds.{signed, if_in_years}

none_past : (b : Bool) (m : ℕ) → 999999999999999999999 < m → if_in_years (signed b m) ≡ None
none_past true zero h = absurd (omega arith)
none_past true (suc m) h = grind (arith, nat_tests, ints)
none_past false m h = grind (arith, nat_tests, ints)

pub capped_time : (b : Bool) (m : ℕ) → if_in_years (signed b (capped m)) ≡ if_in_years (signed b m)
capped_time b m = by_size (cases_lt 1000000000000000000000 m)
  where
    by_size : (1000000000000000000000 < m) ⊎ (m ≤ 1000000000000000000000) → if_in_years (signed b (capped m)) ≡ if_in_years (signed b m)
    by_size (inr small) = let e : capped m ≡ m = omega arith in rw e
    by_size (inl big) = none_past b (capped m) (omega arith) ∙ sym (none_past b m (omega arith))

pub time_answer : (t : Option ℤ) (o : Option ℕ) (v : ℕ) (b : Bool) → Some v ≡ option_map capped o → t ≡ if_in_years (signed b v)
    → t ≡ option_and_then (λ m. if_in_years (signed b m)) o
time_answer t None v b e is = absurd (cc)
time_answer t (Some m) v b e is = let same : v ≡ capped m = cc in rw (is, same) (capped_time b m)
