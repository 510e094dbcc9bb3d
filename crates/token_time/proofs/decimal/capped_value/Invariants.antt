use Rattle.std.proofs.Common.{◌≡◌, ◌≤◌, drop}
use Rattle.std.specs.Str.Parse.{AllDigits, digits_value_after}
use Rattle.token_time.specs.Decimal.{capped}
use Rattle.token_time.proofs.decimal.capped_value.Given as goal

abbrev pub invariant-loop-b : goal.invariant-loop-b
invariant-loop-b l = record {
  small : l.so_far ≤ 1000000000000000000000;
  digits : AllDigits 10 (drop l.b-index l.digits);
  value : capped (digits_value_after 10 l.so_far (drop l.b-index l.digits)) ≡ capped (digits_value_after 10 l.fn.value l.digits);
}
