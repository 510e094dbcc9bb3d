use Rattle.std.proofs.Common.{◌≡◌, ◌∙◌, ◌++◌, All, List, ℕ, length, vec_len, ap, subst, sym, arith}
use Rattle.std.specs.Prelude.{Vec}
use Rattle.std.specs.Global.{Global}
use Rattle.tool_script.proofs.Attending.{if_ok}
use Rattle.tool_watch.specs.Asked.{updates_in}
use Rattle.tool_watch.specs.WatchText.{WorksOn, workers_at}
use Rattle.tool_watch.proofs.Lists.{last_place}
use Rattle.tool_watch.proofs.Texts.{EachSaw, all_many, all_saw, lists_of, works_on}
use Rattle.tool_watch.proofs.watching.work_beside.Goals as goal

pub with_workers-requires-clause-some : goal.with_workers-requires-clause-some
with_workers-requires-clause-some g c =
    let list = rw c.in_ok-applied.was at c.side_by_side-seen.ensures.list in
    omega (arith, last_place c.in_ok-applied.applied.states.items list)

pub with_workers-requires-clause-each : goal.with_workers-requires-clause-each
with_workers-requires-clause-each g c =
    let count = rw c.in_ok-seen.was at c.side_by_side-seen.ensures.many in
    let saw = rw c.in_ok-seen.was at c.side_by_side-seen.ensures.each in
    let each : EachSaw c.args.jobs.items (length c.args.queries.now) c.in_ok-seen.seen.items = λ i d j low. saw i d j (omega (arith, low, c.args.jobs.ok.0)) in
    let many : length c.in_ok-seen.seen.items ≡ length c.args.jobs.items = omega (arith, count, c.in_ok-seen.seen.ok.0, c.args.jobs.ok.0) in
    subst (λ (l : List (Vec ℕ Global)). All (λ revisions. vec_len revisions ≡ length c.args.queries.now) l) (sym c.deref.ensures.value)
    (all_many c.args.source.now.list (length c.args.queries.now) c.args.jobs.items c.in_ok-seen.seen.items c.requires.ready each many)

pub returns : goal.returns
returns g c =
    let count = rw c.in_ok-seen.was at c.side_by_side-seen.ensures.many in
    let saw = rw c.in_ok-seen.was at c.side_by_side-seen.ensures.each in
    let each : EachSaw c.args.jobs.items (length c.args.queries.now) c.in_ok-seen.seen.items = λ i d j low. saw i d j (omega (arith, low, c.args.jobs.ok.0)) in
    let many : length c.in_ok-seen.seen.items ≡ length c.args.jobs.items = omega (arith, count, c.in_ok-seen.seen.ok.0, c.args.jobs.ok.0) in
    let list = rw c.in_ok-applied.was at c.side_by_side-seen.ensures.list in
    let replies = rw c.in_ok-applied.was at c.side_by_side-seen.ensures.replies in
    let workers : length c.in_ok-seen.seen.items ≡ vec_len c.args.jobs = omega (arith, many, c.args.jobs.ok.0) in
    let applied = c.in_ok-applied.applied in
    if_ok c.with_workers.result
    (λ text. text.items ≡ applied.replies.items ++ workers_at applied.states.items c.args.queries.now (lists_of c.deref.result.now) (length c.deref.result.now))
    (λ text. WorksOn c.args.width (vec_len c.args.jobs) c.args.source.now.list (updates_in c.args.texts.now) c.args.queries.now c.args.applied.replies.items
    text.items)
    (λ text says. works_on c.args.width (vec_len c.args.jobs) c.args.source.now.list applied.states.items (updates_in c.args.texts.now) c.args.queries.now
    c.args.applied.replies.items applied.replies.items text.items
    c.in_ok-seen.seen.items c.requires.kept.is_list list replies workers
    (all_saw c.args.source.now.list (length c.args.queries.now) c.args.jobs.items c.in_ok-seen.seen.items c.requires.ready each many)
    (says ∙ ap (λ (l : List (Vec ℕ Global)). applied.replies.items ++ workers_at applied.states.items c.args.queries.now (lists_of l) (length l))
    c.deref.ensures.value))
    c.with_workers.ensures
