use Rattle.std.proofs.Common.{◌≡◌, map, length}
use Rattle.identity_verify.specs.Authority.{has_repeats}
use Rattle.identity_verify.proofs.key_use.has_repeats.Given as goal

abbrev pub invariant-texts : goal.invariant-texts
invariant-texts l = has_repeats (map (λ x. x.now) l.fn.texts) ≡ has_repeats (map (λ x. x.now) l.rest)

abbrev pub decreases-texts : goal.decreases-texts
decreases-texts l = length l.rest
