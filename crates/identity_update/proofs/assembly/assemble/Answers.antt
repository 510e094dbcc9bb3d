use Rattle.std.proofs.Common.{◌∙◌}
use Rattle.identity_update.proofs.AssemblyLaws.{reason_ends}
use Rattle.identity_update.proofs.assembly.assemble.Goals as goal

pub reason_at-reason-requires-clause-ends : goal.reason_at-reason-requires-clause-ends
reason_at-reason-requires-clause-ends c =
    reason_ends c.deref-6.result.now c.args.parts.entries.written.items c.args.parts.bundles.parts.items c.lent_reason-reason.result
    (c.deref-6.ensures.value ∙ (rw (c.deref.ensures.value, c.deref-2.ensures.value) at c.in_ok-document.ensures.value))
