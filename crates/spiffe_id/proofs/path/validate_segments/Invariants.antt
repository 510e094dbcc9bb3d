use Rattle.std.proofs.Common.{◌≡◌, map, drop, string_bytes}
use Rattle.spiffe_id.specs.Path.{segments_check}
use Rattle.spiffe_id.proofs.path.validate_segments.Given as goal

abbrev pub invariant-loop-segment : goal.invariant-loop-segment
invariant-loop-segment l = segments_check (map string_bytes l.segments) ≡ segments_check (map string_bytes (drop l.segment-index l.segments))
