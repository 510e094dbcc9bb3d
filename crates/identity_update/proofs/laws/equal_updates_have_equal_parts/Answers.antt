use Rattle.identity_update.specs.SameUpdate.{updates_decide}
use Rattle.identity_update.proofs.laws.equal_updates_have_equal_parts.Goals as goal

pub returns : goal.returns
returns c = λ a b. updates_decide a b
