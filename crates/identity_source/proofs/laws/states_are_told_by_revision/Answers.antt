use Rattle.identity_source.proofs.Revisions.{one_last, same_revision}
use Rattle.identity_source.proofs.laws.states_are_told_by_revision.Goals as goal

pub returns-clause-last : goal.returns-clause-last
returns-clause-last c = one_last

pub returns-clause-revision : goal.returns-clause-revision
returns-clause-revision c = same_revision
