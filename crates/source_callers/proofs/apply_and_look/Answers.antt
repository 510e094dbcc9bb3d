use Rattle.std.proofs.Common.{◌∙◌, sym}
use Rattle.source_callers.proofs.Counts.{gives_latest}
use Rattle.source_callers.proofs.apply_and_look.Goals as goal

pub returns : goal.returns
returns g c =
    let law = c.states_are_counted_by_revision.ensures in
    gives_latest law.count law.last c.apply.new.self c.in_ok-receipt.receipt c.snapshot-state.result.now c.current.result.now c.revision.result
    c.in_ok-receipt.ensures.receipt (c.in_ok-receipt.ensures.receipt_name ∙ sym c.requires) c.revision-revision.ensures.history
    c.revision-revision.ensures.named c.snapshot-state.ensures
    c.told.ensures c.current.follows.holds-at-none c.revision.ensures
