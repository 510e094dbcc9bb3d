use Rattle.std.proofs.Common.{sym, ◌∙◌}
use Rattle.std.specs.Cmp.Derive.Mapped.{pointwise-map}
use Rattle.identity_update.specs.Bundle.{plain_bundle}
use Rattle.identity_update.specs.SameUpdate.{same_bundle}
use Rattle.identity_update.proofs.equality.same_bundles.Goals as goal

pub returns : goal.returns
returns c = c.eq.ensures ∙ sym (pointwise-map plain_bundle same_bundle c.args.a.now c.args.b.now)
