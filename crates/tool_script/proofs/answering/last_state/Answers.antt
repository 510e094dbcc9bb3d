use Rattle.std.proofs.Common.{sym, subst}
use Rattle.identity_source.specs.History.{EndsWith}
use Rattle.identity_source.specs.State.{PlainState}
use Rattle.tool_script.proofs.Attending.{last_ends}
use Rattle.tool_script.proofs.answering.last_state.Goals as goal

pub returns-in-Ok-clause-last : goal.returns-in-Ok-clause-last
returns-in-Ok-clause-last c =
    subst (λ (x : PlainState). EndsWith c.args.source.now.list x) (sym c.in-Ok.ensures)
    (last_ends c.states_are_told_by_revision.ensures.revision c.args.source.now c.args.reader.now c.current.result.now c.latest-latest.result.now
    c.chosen.result.now c.revision.result
    c.requires c.current.follows.holds-at-none c.latest-latest.ensures.last c.revision.ensures c.chosen.ensures)
