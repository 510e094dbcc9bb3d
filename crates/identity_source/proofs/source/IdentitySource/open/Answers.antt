use Rattle.std.proofs.Common.{sym, ◌∙◌}
use Rattle.identity_source.proofs.Steps.{may_show_same}
use Rattle.identity_source.proofs.source.IdentitySource.open.Goals as goal

pub publish-requires : goal.publish-requires
publish-requires g c = may_show_same c.in_ok-third.third c.in_ok-writer.writer.desk.shown.value (c.in_ok-third.ensures ∙ sym c.in_ok-writer.ensures.0)
