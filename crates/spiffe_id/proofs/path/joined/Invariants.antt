use Rattle.std.proofs.Common.{◌≡◌, ◌++◌, map, drop, string_bytes}
use Rattle.spiffe_id.specs.Path.{joined}
use Rattle.spiffe_id.proofs.path.joined.Given as goal

abbrev pub invariant-loop-segment : goal.invariant-loop-segment
invariant-loop-segment l = joined (map string_bytes l.segments) ≡ string_bytes l.path ++ joined (map string_bytes (drop l.segment-index l.segments))
