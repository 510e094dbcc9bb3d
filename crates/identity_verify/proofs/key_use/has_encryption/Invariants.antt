use Rattle.std.proofs.Common.{◌≡◌, map, drop}
use Rattle.std.specs.List.{list_any}
use Rattle.identity_verify.specs.Authority.{is_of_encryption}
use Rattle.identity_verify.proofs.key_use.has_encryption.Given as goal

abbrev pub invariant-loop-operation : goal.invariant-loop-operation
invariant-loop-operation l = list_any is_of_encryption (map (λ x. x.now) l.operations)
    ≡ list_any is_of_encryption (map (λ x. x.now) (drop l.operation-index l.operations))
