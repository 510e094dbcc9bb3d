use Rattle.std.proofs.Common.{rules}
use Rattle.der_core.specs.SequenceLaws.{unless}
use Rattle.der_core.proofs.Tagged.{on_err_any}
use Rattle.spki.proofs.Fields.{no_algorithm, no_key, more_than_key}
use Rattle.spki.proofs.spki.SubjectPublicKeyInfoDecodeValue.decode_value.Goals as goal

pub returns-in_err-algorithm-clause-none : goal.returns-in_err-algorithm-clause-none
returns-in_err-algorithm-clause-none g c =
    on_err_any _ (no_algorithm g.Params.Decode.Reads g.Key.Decode.Reads c.args.cursor.now
    (rw (c.new-at.ensures, c.rest.ensures) at c.in_err-algorithm.ensures.none))

pub returns-in_err-subject_public_key-clause-none : goal.returns-in_err-subject_public_key-clause-none
returns-in_err-subject_public_key-clause-none g c =
    on_err_any _ (no_key g.Params.Decode.Reads g.Key.Decode.Reads c.args.cursor.now _ _
    (rw (c.new-at.ensures, c.rest.ensures) at c.in_ok-algorithm.ensures.value) c.in_err-subject_public_key.ensures.none)

pub returns-then-not-is_finished-clause-none : goal.returns-then-not-is_finished-clause-none
returns-then-not-is_finished-clause-none g c = λ v content.
    more_than_key g.Params.Decode.Reads g.Key.Decode.Reads _ _ _ _ _ (g.met.Key.Decode c.lifetimes (search rules)).one_value c.in_ok-algorithm.ensures.value
    c.in_ok-subject_public_key.ensures.value (unless _ c.is_finished.ensures c.if-not-is_finished.true) v (rw (c.new-at.ensures, c.rest.ensures) content)
