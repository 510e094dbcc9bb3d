use Rattle.identity_update.proofs.CanonicalReads.{one_document}
use Rattle.identity_update.proofs.laws.documents_have_one_update.Goals as goal

pub returns : goal.returns
returns c = λ same. one_document c.args.a.now c.args.b.now c.document.result.now c.document-2.result.now c.document.ensures.value c.document-2.ensures.value
    c.document.ensures.reads c.document-2.ensures.reads c.document.ensures.lawful c.document-2.ensures.lawful same
