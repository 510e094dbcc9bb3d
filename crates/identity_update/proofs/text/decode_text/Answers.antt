use Rattle.std.proofs.Common.{◌≡◌, ◌+◌, ◌<◌, ◌^◌, length, vec_len, Err, ap, arith}
use Rattle.std.proofs.lemmas.Grind.{common_steps}
use Rattle.identity_update.specs.Reading.{IsTextRefusal}
use Rattle.identity_update.specs.UpdateError.{text_error}
use Rattle.identity_update.proofs.Results.{passed_on}
use Rattle.identity_update.proofs.TextLaws.{append_refused, wrap_refused}
use Rattle.identity_update.proofs.text.decode_text.Goals as goal

pub returns-in_err-decoder-clause-err : goal.returns-in_err-decoder-clause-err
returns-in_err-decoder-clause-err c =
    passed_on (IsTextRefusal c.args.width c.args.text.now) c.from_residual.result (text_error c.in_err-decoder.field-0.0) c.from_residual.ensures.1
    (wrap_refused c.args.width c.args.text.now c.in_err-decoder.field-0.0 c.in_err-decoder.ensures.err
    (λ e. c.in_err-decoder.ensures.no_bytes (ap (λ x. Err x) e)))

pub returns-in_err-append_to-clause-err : goal.returns-in_err-append_to-clause-err
returns-in_err-append_to-clause-err c =
    let empty : vec_len c.in_ok-bytes.bytes ≡ 0 = grind (arith, common_steps) in
    let small : length c.in_ok-decoder.decoder + vec_len c.in_ok-bytes.bytes < 2 ^ 64 = omega arith in
    passed_on (IsTextRefusal c.args.width c.args.text.now) c.from_residual-in_err-append_to.result (text_error c.in_err-append_to.field-0.0)
    c.from_residual-in_err-append_to.ensures.1
    (append_refused c.args.width c.args.text.now c.in_ok-decoder.decoder (vec_len c.in_ok-bytes.bytes) c.in_err-append_to.field-0.0
    (c.in_ok-decoder.ensures.wide, c.in_ok-decoder.ensures.some) small
    (λ b writes. c.in_ok-decoder.ensures.bytes b c.in_ok-decoder.ensures.wide writes)
    c.in_err-append_to.ensures.err (λ e. c.in_err-append_to.ensures.no_bytes (ap (λ x. Err x) e)))

pub returns-clause-ok : goal.returns-clause-ok
returns-clause-ok c =
    let found = c.in_ok-append_to.ensures.bytes in
    let items : c.append_to.new.buf.items ≡ found.0 = grind (arith, common_steps, found.3, c.in_ok-bytes.ensures.items) in
    ((c.in_ok-decoder.ensures.wide, c.in_ok-decoder.ensures.some), rw items (c.in_ok-decoder.ensures.text found.0 found.1 found.2))
