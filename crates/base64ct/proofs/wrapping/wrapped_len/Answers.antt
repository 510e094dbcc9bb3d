use Rattle.std.proofs.Common.{arith, rules, ◌≡◌, ◌+◌, ◌-◌, ◌*◌, ◌/◌, length, ap, ◌∙◌}
use Rattle.base64ct.specs.Wrapping.{ending_bytes, wrapped_len as len_of}
use Rattle.base64ct.proofs.WrappingLemmas.{ending_count, length-wrapped}
use Rattle.base64ct.proofs.wrapping.wrapped_len.Goals as goal

pub returns-in_err-checked_mul-clause-text : goal.returns-in_err-checked_mul-clause-text
returns-in_err-checked_mul-clause-text c text len = length-wrapped c.args.width c.args.ending text c.requires ∙ ap (len_of c.args.width c.args.ending) len

pub returns-clause-text : goal.returns-clause-text
returns-clause-text c text len = length-wrapped c.args.width c.args.ending text c.requires ∙ ap (len_of c.args.width c.args.ending) len

pub returns-clause-len : goal.returns-clause-len
returns-clause-len c =
    let e : c.in_ok-checked_mul.field-0 ≡ (c.args.characters - 1) / c.args.width * length (ending_bytes c.args.ending)
    = rw (c.saturating_sub.ensures, c.len.ensures) at c.in_ok-checked_mul.ensures.1 in
    let n = ending_count c.args.width c.args.characters c.requires in
    let v : c.in_ok-checked_mul.field-0 + c.args.characters ≡ len_of c.args.width c.args.ending c.args.characters = rw (e, n) (omega arith) in
    rw (← v) (search rules)

pub returns-clause-fits : goal.returns-clause-fits
returns-clause-fits c =
    let e : c.in_ok-checked_mul.field-0 ≡ (c.args.characters - 1) / c.args.width * length (ending_bytes c.args.ending)
    = rw (c.saturating_sub.ensures, c.len.ensures) at c.in_ok-checked_mul.ensures.1 in
    let n = ending_count c.args.width c.args.characters c.requires in
    let v : c.in_ok-checked_mul.field-0 + c.args.characters ≡ len_of c.args.width c.args.ending c.args.characters = rw (e, n) (omega arith) in
    rw (← v) (search rules)
