use Rattle.std.proofs.Common.{Err, ap, ◌∙◌}
use Rattle.std.proofs.lemmas.Result.{err_from_is_err_and}
use Rattle.der_core.proofs.Writing.{encoded_len_of, encoded_len_err}
use Rattle.der_core.proofs.encode.tagged_len.Goals as goal

pub returns-in_err-value_len : goal.returns-in_err-value_len
returns-in_err-value_len g c = λ tag.
    let p = err_from_is_err_and c.from_residual.result c.from_residual.ensures.1 in
    encoded_len_err tag (g.T.EncodeValue.content c.args.value.now) _ _ (p.1 ∙ ap Err p.2) c.in_err-value_len.ensures

pub returns : goal.returns
returns g c = λ tag. encoded_len_of tag (g.T.EncodeValue.content c.args.value.now) _ c.with_header.result c.in_ok-value_len.ensures.0 c.with_header.ensures
