-- The algorithm, and then the key.
use Rattle.std.proofs.Common.{Err, ap, ◌∙◌}
use Rattle.std.proofs.lemmas.Result.{err_from_is_err_and}
use Rattle.der_core.specs.Writing.{wrote_refused, wrote_then}
use Rattle.spki.proofs.spki.SubjectPublicKeyInfoEncodeValue.encode_value.Goals as goal

pub returns-in_err-encode-clause-wrote : goal.returns-in_err-encode-clause-wrote
returns-in_err-encode-clause-wrote g c =
    let p = err_from_is_err_and c.from_residual-in_err-encode.result c.from_residual-in_err-encode.ensures.1 in
    wrote_refused (g.Key.Encode.encoding c.args.self.now.subject_public_key) c.in_err-encode.ensures.wrote (p.1 ∙ ap Err p.2) c.in_ok-value_len.ensures.1

pub returns-clause-wrote : goal.returns-clause-wrote
returns-clause-wrote g c = wrote_then c.in_ok-encode.ensures.wrote c.encode.ensures.count c.encode-2.ensures.wrote c.in_ok-value_len.ensures.1
