use Rattle.std.proofs.Common.{◌≡◌, All, vec_len}
use Rattle.identity_source.proofs.open.shares_of.Given as goal

abbrev pub invariant-loop : goal.invariant-loop
invariant-loop l = (vec_len l.shares ≡ l.counter) × All (λ s. s ≡ l.of) l.shares.items
