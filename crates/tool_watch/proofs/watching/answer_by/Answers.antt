use Rattle.std.proofs.Common.{vec_len}
use Rattle.tool_script.proofs.Attending.{if_ok}
use Rattle.tool_watch.specs.Asked.{updates_in}
use Rattle.tool_watch.specs.WatchText.{IsWatched, WorksOn}
use Rattle.tool_watch.proofs.Texts.{whole_text}
use Rattle.tool_watch.proofs.watching.answer_by.Goals as goal

pub returns : goal.returns
returns g c =
    let begun = c.in_ok-applied in
    if_ok c.work_beside.result
    (λ text. WorksOn c.args.width (vec_len begun.jobs) c.begin.new.source.list (updates_in c.split_at.result.1.now) c.as_slice-queries.result.now
    begun.applied.replies.items text.items)
    (λ text. IsWatched c.args.width (vec_len c.args.readers) (updates_in c.args.asked.now.updates.items) c.args.asked.now.queries.items text.items)
    (λ text works. whole_text c.args.width (vec_len c.args.readers) (vec_len begun.jobs) c.begin.new.source.list c.args.asked.now.updates.items
    c.as_slice-texts.result.now c.split_at.result.0.now c.split_at.result.1.now
    c.args.asked.now.queries.items c.as_slice-queries.result.now c.min.result begun.applied.replies.items text.items begun.ensures.count
    c.as_slice-texts.ensures.value c.as_slice-queries.ensures.value c.min.ensures
    c.split_at.ensures.front c.split_at.ensures.back begun.ensures.replies works)
    c.work_beside.ensures
