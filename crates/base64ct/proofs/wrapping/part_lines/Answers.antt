use Rattle.std.proofs.Common.{arith, ◌++◌, drop, take}
use Rattle.base64ct.specs.Wrapping.{ending_bytes}
use Rattle.base64ct.specs.LineWrapper.{left_from, wrapped_from}
use Rattle.base64ct.proofs.WrappingLemmas.{IsParted, parted_ending, parted_line, parted_low, parted_run}
use Rattle.base64ct.proofs.wrapping.part_lines.Goals as goal
use Rattle.base64ct.proofs.wrapping.part_lines.Goals.{else-left-eq0, then-left-eq0}

pub put-requires-clause-low : goal.put-requires-clause-low
put-requires-clause-low c =
    let fits = parted_ending _ _ _ _ _ _ _ _ c.loop-read.invariant c.requires.width c.if-left-eq0.true c.loop-read-test.true in
    rw c.as_bytes.ensures fits

pub move_down-requires-clause-down : goal.move_down-requires-clause-down
move_down-requires-clause-down c = elim c.if-left-eq0.branch [
  | then-left-eq0 w ↦ (let fits = parted_ending _ _ _ _ _ _ _ _ c.loop-read.invariant c.requires.width w.if-left-eq0.true c.loop-read-test.true in
      let len = w.len-written.ensures in let is = w.written-is in omega arith)
  | else-left-eq0 w ↦ (let low = parted_low _ _ _ _ _ _ _ _ c.loop-read.invariant in let is = w.written-is in omega arith)
]

pub loop-read-preserved : goal.loop-read-preserved
loop-read-preserved c =
    let begun : IsParted c.args.lines.width (ending_bytes c.args.lines.ending)
    (take c.args.at c.args.out.now ++ wrapped_from c.args.lines.width (ending_bytes c.args.lines.ending) c.args.lines.left (drop c.args.from c.args.out.now))
    (left_from c.args.lines.width c.args.lines.left (drop c.args.from c.args.out.now)) c.if-left-eq0.out c.loop-read.read c.if-left-eq0.written
    c.if-left-eq0.left
    = elim c.if-left-eq0.branch [
      | then-left-eq0 w ↦ (let line = parted_line _ _ _ _ _ w.put.new.out _ _ _ c.loop-read.invariant c.requires.width w.if-left-eq0.true c.loop-read-test.true
          w.put.auto.out (rw w.as_bytes.ensures at w.put.ensures.front) w.put.ensures.back in
          rw (w.out-is, w.written-is, w.left-is, w.len-written.ensures) line)
      | else-left-eq0 w ↦ rw (w.out-is, w.written-is, w.left-is) c.loop-read.invariant
    ] in
    parted_run _ _ _ _ _ c.move_down.new.out _ _ _ c.min-run.result begun (omega arith) (omega arith) c.move_down.auto.out c.move_down.ensures.front
    c.move_down.ensures.back
