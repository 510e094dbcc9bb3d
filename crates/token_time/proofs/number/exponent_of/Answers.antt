use Rattle.std.proofs.Common.{◌∙◌, sym}
use Rattle.token_time.proofs.Digits.{all_digits}
use Rattle.token_time.proofs.number.exponent_of.Goals as goal

pub capped_value-magnitude-requires-clause-digits : goal.capped_value-magnitude-requires-clause-digits
capped_value-magnitude-requires-clause-digits c = all_digits c.args.digits.now (sym c.are_digits.ensures ∙ c.if-not-are_digits.false)
