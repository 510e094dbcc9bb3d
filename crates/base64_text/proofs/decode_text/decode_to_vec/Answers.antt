use Rattle.std.proofs.Common.{length, arith}
use Rattle.base64_text.proofs.RefusalLemmas.{vec_error}
use Rattle.base64_text.proofs.decode_text.decode_to_vec.Goals as goal

pub returns-in-Err-clause-err : goal.returns-in-Err-clause-err
returns-in-Err-clause-err g c =
    let len = c.deref_mut.ensures.len in
    let size = c.in_ok-bytes.ensures.len in
    vec_error g.E.Alphabet.form.end g.E.Alphabet.form.table g.E.Alphabet.form.padded c.args.src.now (length c.deref_mut.result.now) c.in-Err.error (omega arith)
    c.in-Err.ensures.err
