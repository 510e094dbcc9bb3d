use Rattle.std.proofs.Common.{◌≡◌}
use Rattle.source_tests.proofs.sources.hold.Given as goal

abbrev pub invariant-loop : goal.invariant-loop
invariant-loop g l = l.source.name ≡ l.fn.source.name
