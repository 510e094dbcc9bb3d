use Rattle.std.proofs.Common.{◌≡◌, ◌≤◌, ◌+◌, map, drop, length, string_bytes}
use Rattle.spiffe_id.specs.Path.{joined}
use Rattle.spiffe_id.proofs.path.joined_fits.Given as goal

abbrev pub invariant-loop-segment : goal.invariant-loop-segment
invariant-loop-segment l =
    (l.left ≤ 2048) × (length (joined (map string_bytes l.segments)) + l.left ≡ l.fn.room
    + length (joined (map string_bytes (drop l.segment-index l.segments))))
