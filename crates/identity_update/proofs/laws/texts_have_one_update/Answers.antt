use Rattle.identity_update.proofs.WrappingLaws.{same_documents}
use Rattle.identity_update.proofs.laws.texts_have_one_update.Goals as goal

pub returns : goal.returns
returns c = λ width ending wide same.
    c.documents_have_one_update.ensures (same_documents width ending c.args.a.now c.args.b.now c.document.result.now c.document-2.result.now
    c.text_has_one_value.ensures c.wrapped_encoding_is_read_back.ensures wide c.are_bytes.ensures c.are_bytes-2.ensures c.document.ensures.value
    c.document-2.ensures.value same)
