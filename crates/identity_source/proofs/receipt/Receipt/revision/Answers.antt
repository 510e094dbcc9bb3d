use Rattle.std.proofs.Common.{sym, ap, ◌∙◌}
use Rattle.identity_source.specs.History.{last_revision}
use Rattle.identity_source.proofs.Histories.{ends_at}
use Rattle.identity_source.proofs.receipt.Receipt.revision.Goals as goal

pub returns-clause-last : goal.returns-clause-last
returns-clause-last c = c.revision.ensures ∙ (sym (ends_at _ _ c.self.invariant.0) ∙ ap (λ h. last_revision h.list) c.self.view_is)
