use Rattle.std.proofs.Common.{length, ◌-◌, ◌++◌, take, drop}
use Rattle.base64ct.specs.Wrapping.{ending_bytes}
use Rattle.base64ct.specs.LineWrapper.{wrapped_from, left_from}
use Rattle.base64ct.proofs.WrappingLemmas.{IsParted}
use Rattle.base64ct.proofs.wrapping.part_lines.Given as goal

-- what was written and the lines of the rest are all lines
abbrev pub invariant-loop-read : goal.invariant-loop-read
invariant-loop-read l = IsParted l.lines.width (ending_bytes l.lines.ending)
    (take l.at l.initial.out ++ wrapped_from l.lines.width (ending_bytes l.lines.ending) l.lines.left (drop l.fn.from l.initial.out))
    (left_from l.lines.width l.lines.left (drop l.fn.from l.initial.out)) l.out l.read l.written l.left

abbrev pub decreases-loop-read : goal.decreases-loop-read
decreases-loop-read l = length l.initial.out - l.read
