use Rattle.std.proofs.lemmas.Result.{err_from_is_err_and}
use Rattle.spiffe_id.proofs.PathSegments.{goes_on, stops, ends}
use Rattle.spiffe_id.proofs.path.validate_path_segments.Goals as goal

pub returns-in_err-validate_segment : goal.returns-in_err-validate_segment
returns-in_err-validate_segment c =
    let p = err_from_is_err_and c.from_residual.result c.from_residual.ensures.1 in
    rw (p.1, p.2) (stops c.args.segments.now c.segments.rest.now _ _ c.segments.invariant c.in-Some.ensures.first c.in_err-validate_segment.ensures)

pub segments-preserved : goal.segments-preserved
segments-preserved c = goes_on c.args.segments.now c.segments.rest.now _ _ c.segments.invariant c.in-Some.ensures.first c.in_ok-validate_segment.ensures

pub returns : goal.returns
returns c = ends c.args.segments.now c.segments.rest.now _ c.segments.invariant c.in_default.ensures.first c.validate_segment-2.ensures
