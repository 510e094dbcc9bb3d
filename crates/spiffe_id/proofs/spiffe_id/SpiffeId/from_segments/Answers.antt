use Rattle.std.proofs.Common.{map, string_bytes, sym}
use Rattle.spiffe_id.proofs.MadeOfSegments.{IsPath-joined}
use Rattle.spiffe_id.proofs.spiffe_id.SpiffeId.from_segments.Goals as goal

pub invariant_of-result : goal.invariant_of-result
invariant_of-result c = rw c.in_ok-path.ensures (IsPath-joined (map string_bytes c.args.segments.now) (sym c.in_ok-validate_segments.ensures))
