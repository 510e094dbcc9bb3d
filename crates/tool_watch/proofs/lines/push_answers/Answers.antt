use Rattle.std.proofs.Common.{◌∙◌, ◌<◌, ◌++◌, length, ap, arith}
use Rattle.identity_source.specs.State.{PlainState}
use Rattle.tool_watch.specs.WatchText.{query_reply}
use Rattle.tool_watch.proofs.Workers.{answers_more}
use Rattle.tool_watch.proofs.lines.push_answers.Goals as goal

pub loop-place-preserved : goal.loop-place-preserved
loop-place-preserved c =
    let inside : c.loop-place.place < length c.args.seen.now = omega (arith, c.requires.each, c.loop-place-test.true) in
    answers_more c.args.states.now c.args.queries.now c.args.seen.now c.loop-place.place c.index-queries-place.result c.args.text.now.items
    c.loop-place.text.items c.extend_from_slice.new.self.items c.in_ok-reply.reply.items
    c.loop-place-test.true inside c.index-queries-place.is c.loop-place.invariant
    (c.in_ok-reply.ensures ∙ ap (λ (x : PlainState). query_reply c.index-queries-place.result x) c.state_of.ensures)
    (c.in_ok-extend_from_slice.ensures.items ∙ ap (λ l. c.loop-place.text.items ++ l) c.deref.ensures.value)
