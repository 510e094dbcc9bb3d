use Rattle.std.proofs.Common.{ℕ, ◌<◌, List, length, subst, sym}
use Rattle.identity_update.proofs.WrappingLaws.{document_some, update_writes}
use Rattle.identity_update.proofs.update.Update.to_text.Goals as goal

pub returns-clause-reading : goal.returns-clause-reading
returns-clause-reading c = update_writes c.args.width c.args.self.now c.document.result.now c.encode_text.result c.encode_text.ensures.writes
    c.document.ensures.reads c.document.ensures.lawful

pub encode_text-requires-clause-some : goal.encode_text-requires-clause-some
encode_text-requires-clause-some c = subst (λ (d : List ℕ). 0 < length d) (sym c.document.ensures.value) (document_some c.args.self.now)
