use Rattle.std.proofs.Common.{arith}
use Rattle.token_time.proofs.Digits.{digits_drop, capped_step}
use Rattle.token_time.proofs.decimal.capped_value.Goals as goal

pub append_digit-so_far-requires-clause-digit : goal.append_digit-so_far-requires-clause-digit
append_digit-so_far-requires-clause-digit c = (digits_drop c.args.digits.now c.loop-b.b-index c.loop-b-test.true c.loop-b.invariant.digits).0

pub loop-b-preserved : goal.loop-b-preserved
loop-b-preserved c = record {
  small = omega arith;
  digits = (digits_drop c.args.digits.now c.loop-b.b-index c.loop-b-test.true c.loop-b.invariant.digits).1;
  value = capped_step c.args.digits.now c.loop-b.b-index c.loop-b.so_far c.append_digit-so_far.result _ c.loop-b-test.true c.append_digit-so_far.ensures
      c.loop-b.invariant.value;
}
