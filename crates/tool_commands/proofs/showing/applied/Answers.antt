use Rattle.std.proofs.Common.{rules, ◌≡◌, ◌∙◌, sym}
use Rattle.identity_source.specs.NamedList.{appended}
use Rattle.identity_source.specs.State.{PlainState}
use Rattle.tool_commands.proofs.Applied.{chosen_is, is_reported, receipt_ends, seen_is}
use Rattle.tool_commands.proofs.showing.applied.Goals as goal

-- src/showing.rt:57:23
pub returns-in-Err : goal.returns-in-Err
returns-in-Err g c = rw (sym c.deref.ensures.value) (search rules)

-- src/showing.rt:42:1
pub returns : goal.returns
returns g c =
    let p = c.in-Ok.ensures.published in
    let is : c.in-Ok.receipt ≡ appended c.args.source.now p.state = c.in-Ok.ensures.receipt ∙ p.list in
    let same : c.chosen-state.result.now ≡ p.state =
    chosen_is c.current.result.now c.latest.result.now c.chosen-state.result.now p.state c.revision-revision.result c.chosen-state.ensures
    (λ at. seen_is c.states_are_told_by_revision.ensures.revision c.args.source.now c.in-Ok.receipt p.state c.current.result.now c.args.reader.now.list
    c.requires.opened is
    c.requires.fresh.list c.told.ensures.list c.current.follows.holds-at-none c.revision-revision.ensures.history (at ∙ c.revision-revision.ensures.last))
    (c.states_are_told_by_revision.ensures.last c.apply.new.self.list p.state c.latest.result.now
    (receipt_ends c.args.source.now c.apply.new.self p.state p.list) c.latest.ensures.last) in
    is_reported c.args.width c.args.text.items c.in_ok-state_text.field-0.items c.args.source.now p.state c.chosen-state.result.now c.requires.opened
    (rw (sym c.deref.ensures.value) p.next) same c.in_ok-state_text.ensures
