use Rattle.std.proofs.Common.{◌≡◌, ◌<◌, ◌^◌, drop}
use Rattle.der_core.proofs.Decimals.{digits_from}
use Rattle.der_core.proofs.oid.text.number_at.Given as goal

abbrev pub invariant-loop-i : goal.invariant-loop-i
invariant-loop-i l = record {
  small : l.number < 2 ^ 32;
  goes_on : digits_from l.number (drop l.i l.text) ≡ digits_from 0 l.text;
}
