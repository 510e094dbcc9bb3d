use Rattle.std.proofs.Common.{rules}
use Rattle.der_core.specs.SequenceLaws.{unless}
use Rattle.der_core.proofs.Tagged.{on_err_any}
use Rattle.spki.proofs.Fields.{no_oid, no_parameters, more_follows}
use Rattle.spki.proofs.algorithm.AlgorithmIdentifierDecodeValue.decode_value.Goals as goal

pub returns-in_err-oid-clause-none : goal.returns-in_err-oid-clause-none
returns-in_err-oid-clause-none g c =
    on_err_any _ (no_oid g.Params.Decode.Reads c.args.cursor.now (rw (c.new-at.ensures, c.rest.ensures) at c.in_err-oid.ensures.none))

pub returns-in_err-parameters-clause-none : goal.returns-in_err-parameters-clause-none
returns-in_err-parameters-clause-none g c =
    on_err_any _ (no_parameters g.Params.Decode.Reads c.args.cursor.now _ _ (rw (c.new-at.ensures, c.rest.ensures) at c.in_ok-oid.ensures.value)
    (unless _ c.is_finished.ensures c.if-is_finished.false) c.in_err-parameters.ensures.none)

pub returns-then-not-is_finished-clause-none : goal.returns-then-not-is_finished-clause-none
returns-then-not-is_finished-clause-none g c = λ v content.
    more_follows g.Params.Decode.Reads _ _ _ _ _ (g.met.Params.Decode c.lifetimes (search rules)).one_value c.in_ok-oid.ensures.value
    c.in_ok-parameters.ensures.value (unless _ c.is_finished.ensures c.if-is_finished.false) (unless _ c.is_finished-2.ensures c.if-not-is_finished.true) v
    (rw (c.new-at.ensures, c.rest.ensures) content)
