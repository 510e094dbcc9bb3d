-- A value of another tag stands at the front.
use Rattle.std.proofs.Common.{sym, ◌∙◌}
use Rattle.der_core.specs.ValueLaws.{same_value}
use Rattle.der_core.proofs.cursor.field_at.Goals as goal

pub returns-then-byte-clause-none : goal.returns-then-byte-clause-none
returns-then-byte-clause-none c = λ content rest fits is.
    let v = c.in_ok-value.value in
    let same = same_value _ _ _ c.args.tag.byte content rest v.tag.valid c.in_ok-value.ensures.fits c.args.tag.valid fits
    (sym c.in_ok-value.ensures.found ∙ is) in
    c.if-byte.true (c.byte.ensures ∙ c.tag.ensures ∙ same.tags ∙ sym c.byte-2.ensures)
