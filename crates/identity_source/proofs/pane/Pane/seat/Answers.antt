use Rattle.identity_source.proofs.Steps.{admits, tells, learns}
use Rattle.identity_source.proofs.pane.Pane.seat.Goals as goal

pub tell-requires : goal.tell-requires
tell-requires c = tells _ _

pub reader-requires : goal.reader-requires
reader-requires c = admits

pub learn-requires-clause-rule : goal.learn-requires-clause-rule
learn-requires-clause-rule c = learns _ _ _ _
