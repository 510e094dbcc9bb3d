use Rattle.std.proofs.Common.{arith}
use Rattle.tool_script.specs.Next.{meaning}
use Rattle.tool_script.specs.declared.request.Ending.TheVariants.{Done, TooLong, BadScript}
use Rattle.tool_watch.proofs.Taking.{ended, one_more, unasked}
use Rattle.tool_watch.proofs.gathering.gather.Goals as goal

pub returns-in-Ok-End-Done-clause-asked : goal.returns-in-Ok-End-Done-clause-asked
returns-in-Ok-End-Done-clause-asked g c =
    let n = rw c.in-Ok-End-Done.field-0-is at c.in-Ok-End-Done.ensures.next in
    let m = rw c.in-Ok-End-Done.field-0-0-is at n in
    ended _ _ _ _ _ _ Done c.requests.invariant.gathered c.requests.invariant.few m

pub returns-in-Ok-End-TooLong-clause-unread : goal.returns-in-Ok-End-TooLong-clause-unread
returns-in-Ok-End-TooLong-clause-unread g c =
    let n = rw c.in-Ok-End-TooLong.field-0-is at c.in-Ok-End-TooLong.ensures.next in
    let m = rw c.in-Ok-End-TooLong.field-0-0-is at n in
    unasked _ _ _ TooLong (ended _ _ _ _ _ _ TooLong c.requests.invariant.gathered c.requests.invariant.few m)

pub returns-in-Ok-End-BadScript-clause-unread : goal.returns-in-Ok-End-BadScript-clause-unread
returns-in-Ok-End-BadScript-clause-unread g c =
    let n = rw c.in-Ok-End-BadScript.field-0-is at c.in-Ok-End-BadScript.ensures.next in
    let m = rw c.in-Ok-End-BadScript.field-0-0-is at n in
    unasked _ _ _ BadScript (ended _ _ _ _ _ _ BadScript c.requests.invariant.gathered c.requests.invariant.few m)

pub requests-preserved : goal.requests-preserved
requests-preserved g c =
    let n = rw c.in-Ok-Request.field-0-is at c.in-Ok-Request.ensures.next in
    let inv = c.requests.invariant in
    let more = c.in-Ok.ensures in
    record {
      gathered = one_more _ _ _ _ _ _ _ _ _ _ (meaning n.0 c.in-Ok-Request.request) inv.gathered n.1 n.2 n.4 (more.size n.0) (more.updates n.0)
          (more.queries n.0);
      few = omega (arith, n.3);
      room = omega arith;
      later = omega (arith, inv.later, c.in-Ok-Request.ensures.later);
    }
