use Rattle.token_time.proofs.Zeros.{digits_first, some_left, none_left}
use Rattle.token_time.proofs.time.without_zeros.Goals as goal

pub capped_value-requires-clause-digits : goal.capped_value-requires-clause-digits
capped_value-requires-clause-digits c = rw c.split_end.ensures.front (digits_first _ c.args.whole.now c.requires.whole)

pub capped_value-requires-then-are_zeros-clause-digits : goal.capped_value-requires-then-are_zeros-clause-digits
capped_value-requires-then-are_zeros-clause-digits c = rw c.split_end-2.ensures.front (digits_first _ c.args.fraction.now c.requires.fraction)

pub returns-then-are_zeros : goal.returns-then-are_zeros
returns-then-are_zeros c =
    some_left c.args.whole.now c.args.fraction.now c.args.zeros c.saturating_sub-whole_zeros.result _ _ _ _ c.are_zeros.result c.requires.whole
    c.requires.fraction
    c.saturating_sub-whole_zeros.ensures c.split_end.ensures.front c.split_end.ensures.back c.split_end-2.ensures.front c.split_end-2.ensures.back
    c.are_zeros.ensures
    c.if-are_zeros.true _ _ c.capped_value.ensures c.capped_value-then-are_zeros.ensures

pub returns : goal.returns
returns c =
    none_left c.args.whole.now c.args.fraction.now c.args.zeros c.saturating_sub-whole_zeros.result _ _ _ _ c.are_zeros.result c.requires.whole
    c.requires.fraction
    c.saturating_sub-whole_zeros.ensures c.split_end.ensures.front c.split_end.ensures.back c.split_end-2.ensures.front c.split_end-2.ensures.back
    c.are_zeros.ensures
    c.if-are_zeros.false
