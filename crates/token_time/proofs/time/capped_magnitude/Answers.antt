use Rattle.std.specs.Str.Parse.{digits_value}
use Rattle.std.proofs.Common.{◌++◌}
use Rattle.token_time.proofs.Powers.{answer_up, answer_down}
use Rattle.token_time.proofs.Zeros.{capped_both}
use Rattle.token_time.proofs.time.capped_magnitude.Goals as goal

pub returns-then-up-down : goal.returns-then-up-down
returns-then-up-down c =
    let n = c.args.number.now in
    answer_down c.without_zeros.result (digits_value 10 (n.whole.now ++ n.fraction.now)) c.raised-up.result c.lowered.result _ _ _
    c.raised-up.ensures.value c.lowered.ensures.value c.if-up-down.true c.without_zeros.ensures

pub returns : goal.returns
returns c =
    let n = c.args.number.now in
    let v = capped_both n.whole.now n.fraction.now c.capped_value.result c.capped_value-value.result c.capped_value.ensures c.capped_value-value.ensures in
    answer_up c.capped_product.result c.capped_value-value.result (digits_value 10 (n.whole.now ++ n.fraction.now)) c.raised-up.result c.lowered.result _ _ _
    c.raised-up.ensures.value c.lowered.ensures.value c.if-up-down.false v c.capped_product.ensures
