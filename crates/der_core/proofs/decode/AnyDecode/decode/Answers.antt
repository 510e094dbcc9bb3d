-- A value of another tag, or with another content, stands at the front: so no value of the type does.
use Rattle.std.proofs.Common.{sym, ◌∙◌}
use Rattle.der_core.specs.Decode.{NoFront, ReadsTagged}
use Rattle.der_core.proofs.Tagged.{at_front, on_err_any}
use Rattle.der_core.proofs.decode.AnyDecode.decode.Goals as goal

pub returns-then-byte-tag_byte-clause-none : goal.returns-then-byte-tag_byte-clause-none
returns-then-byte-tag_byte-clause-none g c = λ b rest v r e.
    let front = at_front _ g.T.FixedTag.tag _ _ _ _ c.in-Some.any.tag.valid g.T.FixedTag.tag_is_valid (c.in-Some.ensures.found, c.in-Some.ensures.fits) b
    rest v r (c.rest.ensures ∙ e) in
    c.if-byte-tag_byte.true (c.byte.ensures ∙ c.tag.ensures ∙ front.tag_is ∙ sym c.tag_byte.ensures)

pub returns-in_err-value-clause-none : goal.returns-in_err-value-clause-none
returns-in_err-value-clause-none g c =
    let none : NoFront (ReadsTagged g.T.FixedTag.tag g.T.DecodeValue.HasContent) c.args.cursor.now =
    λ b rest v r e.
    let front = at_front _ g.T.FixedTag.tag _ _ _ _ c.in-Some.any.tag.valid g.T.FixedTag.tag_is_valid (c.in-Some.ensures.found, c.in-Some.ensures.fits) b
    rest v r (c.rest.ensures ∙ e) in
    c.in_err-value.ensures.none v (rw (c.new-content.ensures, c.value.ensures) front.has) in
    on_err_any _ none
