use Rattle.std.proofs.Common.{length}
use Rattle.base64ct.specs.Walk.{IsCut}
use Rattle.base64ct.proofs.lines.cut_lines.Given as goal

abbrev pub invariant-loop-cut : goal.invariant-loop-cut
invariant-loop-cut l = IsCut l.width l.cut.count l.text l.cut.line.now l.cut.rest.now

abbrev pub decreases-loop-cut : goal.decreases-loop-cut
decreases-loop-cut l = length l.cut.rest.now
