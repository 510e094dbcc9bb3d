use Rattle.std.proofs.Common.{◌≡◌, ◌≤◌, arith}
use Rattle.source_callers.proofs.Counts.{goes_forward}
use Rattle.source_callers.proofs.look_twice.Goals as goal

pub returns-clause-forward : goal.returns-clause-forward
returns-clause-forward g c =
    let le : c.current.result.now.revision ≤ c.current-2.result.now.revision =
    goes_forward c.states_are_counted_by_revision.ensures.count c.current.result.now c.current-2.result.now c.current.follows.holds-at-none
    c.current-2.follows.holds-at-none in
    let a : c.revision-first.result ≡ c.current.result.now.revision = c.revision-first.ensures in
    let b : c.revision-second.result ≡ c.current-2.result.now.revision = c.revision-second.ensures in omega arith
