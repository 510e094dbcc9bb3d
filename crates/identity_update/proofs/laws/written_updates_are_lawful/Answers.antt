use Rattle.identity_update.proofs.ReadingLaws.{reason_text}
use Rattle.identity_update.proofs.VerdictLaws.{lawful_update}
use Rattle.identity_update.proofs.laws.written_updates_are_lawful.Goals as goal

pub returns : goal.returns
returns c = λ width text u x. lawful_update x.written u x.lawful
    (reason_text x.document.document.has.next.rest x.written.reason x.document.document.has.next.next)
