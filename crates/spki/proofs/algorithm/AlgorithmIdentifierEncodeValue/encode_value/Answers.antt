-- The algorithm, and then the parameters where there are some.
use Rattle.std.proofs.Common.{Err, ap, ◌∙◌}
use Rattle.std.proofs.lemmas.Result.{err_from_is_err_and}
use Rattle.der_core.specs.Writing.{wrote_refused, wrote_then}
use Rattle.spki.specs.Algorithm.{optional_bytes}
use Rattle.spki.proofs.algorithm.AlgorithmIdentifierEncodeValue.encode_value.Goals as goal

pub returns-in_err-encode-clause-wrote : goal.returns-in_err-encode-clause-wrote
returns-in_err-encode-clause-wrote g c =
    let p = err_from_is_err_and c.from_residual-in_err-encode.result c.from_residual-in_err-encode.ensures.1 in
    wrote_refused (optional_bytes g.Params.Encode.encoding c.args.self.now.parameters) c.in_err-encode.ensures.wrote (p.1 ∙ ap Err p.2)
    c.in_ok-value_len.ensures.1

pub returns-in-Some-clause-wrote : goal.returns-in-Some-clause-wrote
returns-in-Some-clause-wrote g c =
    rw c.in-Some.is (wrote_then c.in_ok-encode.ensures.wrote c.encode.ensures.count c.encode-in-Some.ensures.wrote
    (rw c.in-Some.is at c.in_ok-value_len.ensures.1))
