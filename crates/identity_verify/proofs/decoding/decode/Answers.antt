use Rattle.identity_verify.proofs.Decodings.{decodes, refuses}
use Rattle.identity_verify.proofs.decoding.decode.Goals as goal

pub returns-in-Ok : goal.returns-in-Ok
returns-in-Ok c = λ decode h. decodes decode h c.args.text.now c.in-Ok.bytes.items c.in-Ok.ensures.bytes c.in-Ok.ensures.ok c.in-Ok.ensures.value

pub returns-in-Err-InvalidEncoding : goal.returns-in-Err-InvalidEncoding
returns-in-Err-InvalidEncoding c = λ decode h. refuses decode h c.args.text.now (rw c.in-Err-InvalidEncoding.field-0-is at c.in-Err-InvalidEncoding.ensures.err)
