use Rattle.std.proofs.Common.{◌≡◌, map, drop}
use Rattle.identity_verify.specs.Authority.{stands_in}
use Rattle.identity_verify.proofs.key_use.stands_in.Given as goal

abbrev pub invariant-loop-t : goal.invariant-loop-t
invariant-loop-t l = stands_in (map (λ x. x.now) l.texts) l.text ≡ stands_in (map (λ x. x.now) (drop l.t-index l.texts)) l.text
