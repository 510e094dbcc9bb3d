-- A refusal of one element is one of the list.
use Rattle.std.proofs.Common.{rules, take, drop, ◌+◌}
use Rattle.std.specs.List.{flat_map}
use Rattle.update_document.proofs.ElementsWriting.{behind_element, element_refused}
use Rattle.update_document.proofs.sequence_of.SequenceOfEncodeValue.encode_value.Goals as goal

pub returns-in_err-encode-clause-wrote : goal.returns-in_err-encode-clause-wrote
returns-in_err-encode-clause-wrote g c =
    let values = c.args.self.now.0.now in
    let i = c.loop-value.value-index in
    element_refused (flat_map g.T.Encode.encoding (take i values)) (flat_map g.T.Encode.encoding (drop (i + 1) values))
    (flat_map g.T.Encode.encoding values) (behind_element g.T.Encode.encoding values i c.value-item.result c.loop-value-test.true c.value-item.is)
    c.loop-value.invariant.told c.loop-value.invariant.count c.in_err-encode.ensures.wrote (search rules) c.loop-value.invariant.fits
