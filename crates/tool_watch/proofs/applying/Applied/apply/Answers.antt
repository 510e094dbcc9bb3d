use Rattle.std.proofs.Common.{◌∙◌, ◌⊎◌, inl}
use Rattle.tool_script.specs.Replies.{Accepts, Refuses}
use Rattle.tool_script.proofs.Attending.{accepted}
use Rattle.tool_watch.proofs.Lists.{on_ok}
use Rattle.tool_watch.proofs.applying.Applied.apply.Goals as goal

pub returns-in_ok-reply-in-Ok-clause-reply : goal.returns-in_ok-reply-in-Ok-clause-reply
returns-in_ok-reply-in-Ok-clause-reply g c =
    on_ok c.extend_from_slice.result c.extend_from_slice.new.self.items c.args.self.now.replies.items c.deref.result.now
    (λ reply. Accepts c.args.width c.args.source.now.list c.args.text.now c.apply.new.self.list reply
    ⊎ Refuses c.args.width c.args.source.now.list c.args.text.now c.apply.new.self.list reply)
    c.extend_from_slice.ensures.items
    (inl (accepted c.args.source.now c.apply.new.self c.in-Ok.receipt c.args.width c.args.text.now c.deref.result.now c.revision.result
    c.in-Ok.ensures.published c.in-Ok.ensures.receipt c.revision.ensures.last
    (c.deref.ensures.value ∙ c.in_ok-reply-in-Ok.ensures)))
