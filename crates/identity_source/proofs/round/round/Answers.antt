use Rattle.std.proofs.Common.{sym, ◌∙◌}
use Rattle.identity_source.proofs.Sources.{Next, is_published, published_is, may_publish, is_mark, mark_is, base_done, base_given_up}
use Rattle.identity_source.proofs.round.round.Goals as goal

pub new-published-requires : goal.new-published-requires
new-published-requires g c =
    let o = c.args.writer.now in let next : Next o.desk.shown.value c.args.next = record { up = c.requires.revision; no_opening = c.requires.update } in
    is_published o.desk.shown.value c.args.log.now c.in-Some.trial.entries _ c.args.mine.now c.args.next _ c.requires.base next c.requires.same
    c.in-Some.ensures.begun c.token-tried.ensures.entries c.entry_count-length.ensures

pub publish-requires : goal.publish-requires
publish-requires g c =
    let o = c.args.writer.now in let next : Next o.desk.shown.value c.args.next = record { up = c.requires.revision; no_opening = c.requires.update } in
    may_publish o.desk.shown.value c.new-published.result c.args.next
    (published_is o.desk.shown.value c.new-published.result c.args.log.now c.token-tried.result.book c.in-Some.trial.entries c.token-tried.result.log
    c.args.mine.now c.args.next c.requires.base next c.in-Some.ensures.begun c.token-tried.ensures.entries
    (c.token-tried.ensures.same ∙ c.in-Some.ensures.same) c.new-published.ensures)

pub new-requires : goal.new-requires
new-requires g c =
    let o = c.args.writer.now in let next : Next o.desk.shown.value c.args.next = record { up = c.requires.revision; no_opening = c.requires.update } in
    is_mark o.desk.shown.value c.args.log.now c.in-Some.trial.entries c.token.result.log c.args.mine.now c.args.next _ c.requires.base next c.requires.same
    c.in-Some.ensures.begun (c.token.ensures.entries ∙ c.end.ensures.ended) c.entry_count-length.ensures

pub returns-in-Ok-clause-mark : goal.returns-in-Ok-clause-mark
returns-in-Ok-clause-mark g c =
    let o = c.args.writer.now in let next : Next o.desk.shown.value c.args.next = record { up = c.requires.revision; no_opening = c.requires.update } in
    let published = published_is o.desk.shown.value c.new-published.result c.args.log.now c.token-tried.result.book c.in-Some.trial.entries
    c.token-tried.result.log c.args.mine.now c.args.next c.requires.base next c.in-Some.ensures.begun c.token-tried.ensures.entries
    (c.token-tried.ensures.same ∙ c.in-Some.ensures.same) c.new-published.ensures in
    let mark = mark_is o.desk.shown.value c.new.result c.args.log.now c.token.result.book c.in-Some.trial.entries c.token.result.log c.args.mine.now
    c.args.next c.requires.base next c.requires.same c.in-Some.ensures.begun (c.token.ensures.entries ∙ c.end.ensures.ended)
    (c.token.ensures.same ∙ c.end.ensures.same) c.new.ensures in
    (c.in-Ok.ensures.0 ∙ (published ∙ sym mark), mark)

pub returns-in-Ok-clause-base : goal.returns-in-Ok-clause-base
returns-in-Ok-clause-base g c =
    let o = c.args.writer.now in let next : Next o.desk.shown.value c.args.next = record { up = c.requires.revision; no_opening = c.requires.update } in
    let published = published_is o.desk.shown.value c.new-published.result c.args.log.now c.token-tried.result.book c.in-Some.trial.entries
    c.token-tried.result.log c.args.mine.now c.args.next c.requires.base next c.in-Some.ensures.begun c.token-tried.ensures.entries
    (c.token-tried.ensures.same ∙ c.in-Some.ensures.same) c.new-published.ensures in
    base_done o.desk.shown.value c.publish.new.writer.desk.shown.value c.args.log.now c.end.new.self c.in-Some.trial.entries c.args.mine.now c.args.next
    c.requires.base next c.requires.same c.in-Some.ensures.begun c.end.ensures.same c.end.ensures.ended (c.in-Ok.ensures.0 ∙ published)

pub returns-in-Err-clause-base : goal.returns-in-Err-clause-base
returns-in-Err-clause-base g c =
    base_given_up c.args.writer.now.desk.shown.value c.publish.new.writer.desk.shown.value c.args.log.now c.end-in-Err.new.self c.in-Some.trial.entries
    c.args.mine.now c.requires.base c.in-Some.ensures.begun c.end-in-Err.ensures.same c.end-in-Err.ensures.ended c.in-Err.ensures
