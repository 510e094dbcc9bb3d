use Rattle.spiffe_id.proofs.PathSegments.{cut_at_slash}
use Rattle.spiffe_id.proofs.path.split_path.Goals as goal

pub split_at-requires : goal.split_at-requires
split_at-requires c = rw c.as_bytes.ensures.value at (cut_at_slash c.as_bytes.result.now c.in-Some.end c.in-Some.ensures.first)
