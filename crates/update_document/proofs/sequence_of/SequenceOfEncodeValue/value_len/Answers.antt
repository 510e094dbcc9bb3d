use Rattle.std.proofs.Common.{arith, refl}
use Rattle.std.specs.List.{flat_map}
use Rattle.update_document.proofs.ElementsWriting.{front_le, element_too_long}
use Rattle.update_document.proofs.sequence_of.SequenceOfEncodeValue.value_len.Goals as goal

pub returns-in_err-more : goal.returns-in_err-more
returns-in_err-more g c =
    let le = front_le g.T.Encode.encoding c.args.self.now.0.now c.loop-value.value-index c.value-item.result c.loop-value-test.true c.value-item.is in
    element_too_long c.from_residual.result (flat_map g.T.Encode.encoding c.args.self.now.0.now) (g.T.Encode.encoding c.value-item.result)
    c.in_err-more.field-0.0 c.from_residual.ensures.1 c.in_err-more.ensures (omega (arith, le))

pub returns-in_default : goal.returns-in_default
returns-in_default g c =
    let le = front_le g.T.Encode.encoding c.args.self.now.0.now c.loop-value.value-index c.value-item.result c.loop-value-test.true c.value-item.is in
    (refl, grind (arith, le, c.in_default.ensures, c.get.ensures, c.in_ok-more.ensures, c.loop-value.invariant))
