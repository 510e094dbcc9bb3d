use Rattle.std.proofs.Common.{refl}
use Rattle.update_document.specs.DocumentFields.{document_of}
use Rattle.update_document.proofs.DocumentLaws.{content_refused, some_bytes, trails}
use Rattle.update_document.proofs.document.read_document.Goals as goal

pub returns-in_err-document : goal.returns-in_err-document
returns-in_err-document g c =
    content_refused g.E.Decode.Reads g.B.Decode.Reads document_of c.args.bytes.now c.in-Some.content.now c.in-Some.rest.now c.in_err-document.field-0.0
    c.from_residual.result c.in-Some.ensures.value c.in-Some.ensures.fits
    (λ m. c.in_err-document.ensures.none (rw m refl)) c.in_err-document.ensures.causes c.from_residual.ensures.1

pub returns : goal.returns
returns g c =
    trails g.E.Decode.Reads g.B.Decode.Reads c.args.bytes.now c.in-Some.content.now c.in-Some.rest.now (document_of c.in_ok-document.document)
    c.in-Some.ensures.value c.in-Some.ensures.fits
    c.in_ok-document.ensures.value (some_bytes c.in-Some.rest.now c.is_empty.result c.is_empty.ensures c.if-is_empty.false)
