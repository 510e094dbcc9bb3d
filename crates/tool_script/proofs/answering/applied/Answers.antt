use Rattle.std.proofs.Common.{◌≡◌, ◌⊎◌, inl}
use Rattle.tool_script.specs.Reply.{accepted_reply}
use Rattle.tool_script.specs.Replies.{Accepts, Refuses}
use Rattle.tool_script.proofs.Attending.{accepted, if_ok}
use Rattle.tool_script.proofs.answering.applied.Goals as goal

pub returns-in-Ok-clause-reply : goal.returns-in-Ok-clause-reply
returns-in-Ok-clause-reply g c =
    if_ok c.accepted_text.result (λ reply. reply.items ≡ accepted_reply c.revision-revision.result)
    (λ reply. Accepts c.args.width c.args.source.now.list c.args.text.now c.apply.new.self.list reply.items
    ⊎ Refuses c.args.width c.args.source.now.list c.args.text.now c.apply.new.self.list reply.items)
    (λ reply says. inl (accepted c.args.source.now c.apply.new.self c.in-Ok.receipt c.args.width c.args.text.now reply.items c.revision-revision.result
    c.in-Ok.ensures.published c.in-Ok.ensures.receipt c.revision-revision.ensures.last says))
    c.accepted_text.ensures
