use Rattle.std.proofs.Common.{ℕ, List, Err, arith, ap, subst}
use Rattle.std.specs.Io.KnownBytes.{Appends}
use Rattle.identity_io.specs.Whole.{AppendsPrefix}
use Rattle.tool_script.specs.Next.{meaning}
use Rattle.tool_script.specs.declared.request.Ending.TheVariants.{Done, TooLong, BadScript}
use Rattle.tool_script.proofs.Sessions.{ended, stopped, in_part, in_reply, one_more, rose_from}
use Rattle.tool_script.proofs.serving.serve.Goals as goal

pub returns-in-Ok-End-Done-clause-serves : goal.returns-in-Ok-End-Done-clause-serves
returns-in-Ok-End-Done-clause-serves g c =
    let n = rw c.in-Ok-End-Done.field-0-is at c.in-Ok-End-Done.ensures.next in
    let m = rw c.in-Ok-End-Done.field-0-0-is at n in
    ended _ _ _ _ _ _ _ Done c.requests.invariant.progress c.requests.invariant.few m

pub returns-in-Ok-End-TooLong-clause-serves : goal.returns-in-Ok-End-TooLong-clause-serves
returns-in-Ok-End-TooLong-clause-serves g c =
    let n = rw c.in-Ok-End-TooLong.field-0-is at c.in-Ok-End-TooLong.ensures.next in
    let m = rw c.in-Ok-End-TooLong.field-0-0-is at n in
    ended _ _ _ _ _ _ _ TooLong c.requests.invariant.progress c.requests.invariant.few m

pub returns-in-Ok-End-BadScript-clause-serves : goal.returns-in-Ok-End-BadScript-clause-serves
returns-in-Ok-End-BadScript-clause-serves g c =
    let n = rw c.in-Ok-End-BadScript.field-0-is at c.in-Ok-End-BadScript.ensures.next in
    let m = rw c.in-Ok-End-BadScript.field-0-0-is at n in
    ended _ _ _ _ _ _ _ BadScript c.requests.invariant.progress c.requests.invariant.few m

pub returns-in-Err-Failed-clause-serves : goal.returns-in-Err-Failed-clause-serves
returns-in-Err-Failed-clause-serves g c =
    let e = c.in-Err-Failed.ensures in
    let f = c.in-Err-Failed.field-0-is in (
      rose_from _ _ _ c.requests.invariant.read (e.failed (ap (λ x. Err x) f)),
      stopped _ _ _ _ _ _ _ _ _ _ c.requests.invariant.progress c.requests.invariant.few (e.pending_err (ap (λ x. Err x) f)) (e.stopped (ap (λ x. Err x) f)),
    )

pub returns-in-Err-OutOfMemory-clause-serves : goal.returns-in-Err-OutOfMemory-clause-serves
returns-in-Err-OutOfMemory-clause-serves g c = in_part _ _ _ _ _ _ _ c.requests.invariant.progress c.requests.invariant.few

pub returns-in-Err-clause-serves : goal.returns-in-Err-clause-serves
returns-in-Err-clause-serves g c = in_part _ _ _ _ _ _ _ c.requests.invariant.progress c.requests.invariant.few

pub returns-in-Err-write_all-clause-serves : goal.returns-in-Err-write_all-clause-serves
returns-in-Err-write_all-clause-serves g c =
    let n = rw c.in-Ok-Request.field-0-is at c.in-Ok-Request.ensures.next in (
      rose_from _ _ _ c.requests.invariant.wrote c.in-Err-write_all.ensures.cause.failed,
      in_reply _ _ _ _ _ _ _ _ _ _ _ (meaning n.0 c.in-Ok-Request.request) c.requests.invariant.progress n.1 n.2 n.3 (c.in-Ok.ensures.reply n.0)
          (subst (λ (l : List ℕ). AppendsPrefix (g.K.Sink.written c.requests.out) (g.K.Sink.written c.write_all.new.sink) l) c.as_slice.ensures.value
          c.in-Err-write_all.ensures.prefix),
    )

pub requests-preserved : goal.requests-preserved
requests-preserved g c =
    let n = rw c.in-Ok-Request.field-0-is at c.in-Ok-Request.ensures.next in
    let inv = c.requests.invariant in
    record {
      progress = one_more _ _ _ _ _ _ _ _ _ _ _ (meaning n.0 c.in-Ok-Request.request) inv.progress n.1 n.2 (c.in-Ok.ensures.reply n.0)
          (subst (λ (l : List ℕ). Appends (g.K.Sink.written c.requests.out) (g.K.Sink.written c.write_all.new.sink) l) c.as_slice.ensures.value
          c.in-Ok-write_all.ensures.ok);
      attends = c.in-Ok.ensures.attends;
      few = omega (arith, n.3);
      read = omega (arith, inv.read, c.in-Ok-Request.ensures.later);
      wrote = omega (arith, inv.wrote, c.in-Ok-write_all.ensures.cause.later);
    }

pub requests-preserved-in-Ok-write_all : goal.requests-preserved-in-Ok-write_all
requests-preserved-in-Ok-write_all g c =
    let n = rw c.in-Ok-Request.field-0-is at c.in-Ok-Request.ensures.next in
    let inv = c.requests.invariant in
    record {
      progress = one_more _ _ _ _ _ _ _ _ _ _ _ (meaning n.0 c.in-Ok-Request.request) inv.progress n.1 n.2 (c.in-Ok.ensures.reply n.0)
          (subst (λ (l : List ℕ). Appends (g.K.Sink.written c.requests.out) (g.K.Sink.written c.write_all.new.sink) l) c.as_slice.ensures.value
          c.in-Ok-write_all.ensures.ok);
      attends = c.in-Ok.ensures.attends;
      few = omega (arith, n.3);
      read = omega (arith, inv.read, c.in-Ok-Request.ensures.later);
      wrote = omega (arith, inv.wrote, c.in-Ok-write_all.ensures.cause.later);
    }

pub requests-preserved-in-Ok-write_all-2 : goal.requests-preserved-in-Ok-write_all-2
requests-preserved-in-Ok-write_all-2 g c =
    let n = rw c.in-Ok-Request.field-0-is at c.in-Ok-Request.ensures.next in
    let inv = c.requests.invariant in
    record {
      progress = one_more _ _ _ _ _ _ _ _ _ _ _ (meaning n.0 c.in-Ok-Request.request) inv.progress n.1 n.2 (c.in-Ok.ensures.reply n.0)
          (subst (λ (l : List ℕ). Appends (g.K.Sink.written c.requests.out) (g.K.Sink.written c.write_all.new.sink) l) c.as_slice.ensures.value
          c.in-Ok-write_all.ensures.ok);
      attends = c.in-Ok.ensures.attends;
      few = omega (arith, n.3);
      read = omega (arith, inv.read, c.in-Ok-Request.ensures.later);
      wrote = omega (arith, inv.wrote, c.in-Ok-write_all.ensures.cause.later);
    }
