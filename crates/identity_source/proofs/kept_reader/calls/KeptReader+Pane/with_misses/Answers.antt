use Rattle.identity_source.proofs.Readers.{relabelled}
use Rattle.identity_source.proofs.kept_reader.calls.KeptReader+Pane.with_misses.Goals as goal

pub invariant_of-result : goal.invariant_of-result
invariant_of-result c = relabelled _ _ _ 0 0 _ _ c.of.ensures c.self.invariant
