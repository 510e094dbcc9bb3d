use Rattle.std.proofs.lemmas.Result.{err_from_is_err_and}
use Rattle.der_core.specs.Any.{plain_ref}
use Rattle.spki.proofs.Oids.{no_parameters_oid}
use Rattle.spki.proofs.algorithm.AlgorithmIdentifier+AnyRef.parameters_oid.Goals as goal

pub returns-in_err-decode_as : goal.returns-in_err-decode_as
returns-in_err-decode_as c =
    let p = err_from_is_err_and c.from_residual-in_err-decode_as.result c.from_residual-in_err-decode_as.ensures.1 in
    rw (c.in_ok-parameters_any.ensures.value, p.1, p.2) (no_parameters_oid (plain_ref c.in_ok-parameters_any.field-0) _ c.in_err-decode_as.ensures)
