use Rattle.std.proofs.Common.{◌≡◌, ◌<◌, ◌^◌, drop}
use Rattle.der_core.proofs.Subidentifiers.{read_from}
use Rattle.der_core.proofs.oid.subidentifier.subidentifier_at.Given as goal

abbrev pub invariant-loop-i : goal.invariant-loop-i
invariant-loop-i l = record {
  small : l.number < 2 ^ 32;
  goes_on : read_from l.number (drop l.i l.bytes) ≡ read_from 0 l.bytes;
}
