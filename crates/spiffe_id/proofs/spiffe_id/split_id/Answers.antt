use Rattle.std.proofs.Common.{sym}
use Rattle.spiffe_id.proofs.PathSegments.{path_from_is}
use Rattle.spiffe_id.proofs.spiffe_id.split_id.Goals as goal

pub returns-clause-path : goal.returns-clause-path
returns-clause-path c = rw c.split_path.ensures.path (path_from_is c.in_ok-rest.rest.now
    (rw (← c.split_path.ensures.path, ← c.as_bytes-2.ensures.value) (sym c.in_ok-validate_path.ensures)))
