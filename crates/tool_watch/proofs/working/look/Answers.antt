use Rattle.std.proofs.Common.{◌≡◌, ◌∙◌, ◌≤◌, sym, arith}
use Rattle.identity_source.specs.History.{last_revision}
use Rattle.identity_source.proofs.Histories.{ends_at}
use Rattle.tool_watch.proofs.Lists.{rises_on}
use Rattle.tool_watch.proofs.working.look.Goals as goal

pub returns-clause-rises : goal.returns-clause-rises
returns-clause-rises c =
    let h = c.current.follows.holds-at-none in
    let up : last_revision c.args.reader.now.list ≤ last_revision c.current.follows.lender-at-none.list =
    rises_on c.current.follows.lender-at-none.list c.args.reader.now.list h.0.begins h.0.history in
    let at : last_revision c.current.follows.lender-at-none.list ≡ c.current.result.now.revision =
    ends_at c.current.follows.lender-at-none.list c.current.result.now h.1 in
    omega (arith, up, at, c.revision.ensures)

pub returns-clause-last : goal.returns-clause-last
returns-clause-last c = c.revision.ensures ∙ sym (ends_at c.current.follows.lender-at-none.list c.current.result.now c.current.follows.holds-at-none.1)
