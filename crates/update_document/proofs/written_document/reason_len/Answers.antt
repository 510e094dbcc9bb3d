use Rattle.update_document.proofs.written_document.reason_len.Goals as goal

pub returns-in-Some : goal.returns-in-Some
returns-in-Some c = rw c.in-Some.is (c.tagged_len.ensures 128)
