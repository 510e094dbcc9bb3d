use Rattle.identity_source.proofs.Steps.{takes}
use Rattle.identity_source.proofs.glance.glance.Goals as goal

pub enter_as-requires : goal.enter_as-requires
enter_as-requires c = takes _ _
