use Rattle.identity_source.proofs.Histories.{counted, ends_at}
use Rattle.identity_source.proofs.laws.states_are_counted_by_revision.Goals as goal

pub returns-clause-count : goal.returns-clause-count
returns-clause-count c = counted

pub returns-clause-last : goal.returns-clause-last
returns-clause-last c = ends_at
