use Rattle.std.proofs.Common.{◌≡◌, length}
use Rattle.std.specs.List.{slice_split}
use Rattle.spiffe_id.specs.TrustDomain.{is_slash}
use Rattle.spiffe_id.specs.Path.{path_segments_check}
use Rattle.spiffe_id.proofs.path.validate_path_segments.Given as goal

abbrev pub invariant-segments : goal.invariant-segments
invariant-segments l = path_segments_check (slice_split is_slash l.fn.segments) ≡ path_segments_check (slice_split is_slash l.rest)

abbrev pub decreases-segments : goal.decreases-segments
decreases-segments l = length l.rest
