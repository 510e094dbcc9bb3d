use Rattle.std.proofs.lemmas.Result.{err_from_is_err_and}
use Rattle.der_core.specs.Any.{plain_ref}
use Rattle.der_core.specs.SequenceLaws.{unless}
use Rattle.spki.proofs.Oids.{no_oid_of}
use Rattle.spki.proofs.algorithm.AlgorithmIdentifier+AnyRef.oids.Goals as goal

pub returns-in_err-decode_as-in-Some-clause-parameters : goal.returns-in_err-decode_as-in-Some-clause-parameters
returns-in_err-decode_as-in-Some-clause-parameters c =
    let p = err_from_is_err_and c.from_residual.result c.from_residual.ensures.1 in
    rw (c.in-Some.is, p.1, p.2) (unless _ c.is_null.ensures c.if-is_null.false, no_oid_of (plain_ref c.in-Some.parameters) _ c.in_err-decode_as-in-Some.ensures)
