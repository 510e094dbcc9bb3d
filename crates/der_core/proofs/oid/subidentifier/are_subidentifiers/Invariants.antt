use Rattle.std.proofs.Common.{◌↔◌, length}
use Rattle.der_core.specs.Oid.{AreSubidentifiers}
use Rattle.der_core.proofs.oid.subidentifier.are_subidentifiers.Given as goal

abbrev pub invariant-loop-rest : goal.invariant-loop-rest
invariant-loop-rest l = AreSubidentifiers l.rest ↔ AreSubidentifiers l.bytes

abbrev pub decreases-loop-rest : goal.decreases-loop-rest
decreases-loop-rest l = length l.rest
