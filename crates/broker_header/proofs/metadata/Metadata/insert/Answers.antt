use Rattle.broker_header.proofs.MapEntries.{found_same, found_other}
use Rattle.broker_header.proofs.StoredEntries.{stored_added}
use Rattle.broker_header.proofs.metadata.Metadata.insert.Goals as goal

pub returns-clause-set : goal.returns-clause-set
returns-clause-set c =
    stored_added c.args.self.now c.self.inside.entries.entries _ c.in_ok-key.key c.in_ok-value.value c.args.key.now c.args.value.now
    c.self.view_is c.in_ok-insert.ensures.entries c.in_ok-key.ensures.ok c.in_ok-value.ensures.ok

pub returns-clause-found : goal.returns-clause-found
returns-clause-found c = rw (returns-clause-set c) (found_same c.args.key.now c.args.value.now c.args.self.now)

pub returns-clause-others : goal.returns-clause-others
returns-clause-others c = λ q other. rw (returns-clause-set c) (found_other q c.args.key.now c.args.value.now c.args.self.now other)
