use Rattle.std.proofs.Common.{◌∙◌}
use Rattle.broker_header.proofs.MapEntries.{left_other}
use Rattle.broker_header.proofs.StoredEntries.{stored_removed, stored_was, stored_gone}
use Rattle.broker_header.proofs.metadata.Metadata.remove.Goals as goal

pub returns-clause-was : goal.returns-clause-was
returns-clause-was c = c.is_some.ensures ∙ stored_was c.args.key.now c.args.self.now c.self.inside.entries.entries c.remove.result c.self.view_is
    c.remove.ensures.value

pub returns-clause-removed : goal.returns-clause-removed
returns-clause-removed c = stored_removed c.args.key.now c.args.self.now c.self.inside.entries.entries _ c.self.view_is c.remove.ensures.entries

pub returns-clause-gone : goal.returns-clause-gone
returns-clause-gone c = stored_gone c.args.key.now _ c.remove.ensures.updates.1

pub returns-clause-others : goal.returns-clause-others
returns-clause-others c = λ q other. rw (returns-clause-removed c) (left_other q c.args.key.now c.args.self.now other)
