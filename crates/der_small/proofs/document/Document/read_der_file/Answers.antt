-- The file's bytes are read as a document.
use Rattle.std.proofs.Common.{List, ℕ, subst}
use Rattle.identity_io.specs.Files.{file_at}
use Rattle.der_core.specs.Decode.{FromDerOwned}
use Rattle.der_small.specs.Document.{document_bytes}
use Rattle.der_small.specs.OneValue.{IsOneValue}
use Rattle.der_small.proofs.Reading.{file_document}
use Rattle.der_small.proofs.document.Document.read_der_file.Goals as goal

pub returns-clause-read : goal.returns-clause-read
returns-clause-read g c = λ known is.
    let Read : List ℕ → Type 0 = λ bytes. FromDerOwned document_bytes IsOneValue bytes c.from_der.result in
    file_document document_bytes (file_at c.args.path.now known) c.in_ok-bytes.bytes c.from_der.result (c.in_ok-bytes.ensures.read known is)
    (subst Read c.deref.ensures.value c.from_der.ensures)
