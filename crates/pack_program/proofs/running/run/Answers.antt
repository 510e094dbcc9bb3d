use Rattle.std.proofs.Common.{List, ℕ, subst}
use Rattle.std.specs.Io.KnownBytes.{Appends}
use Rattle.identity_io.specs.Whole.{AppendsPrefix}
use Rattle.pack_program.specs.Views.{order_of}
use Rattle.pack_program.proofs.Ran.{answered, devices, no_usage, partly, stopped, stops_otherwise}
use Rattle.pack_program.proofs.running.run.Goals as goal

pub returns-in-Err-clause-usage : goal.returns-in-Err-clause-usage
returns-in-Err-clause-usage g c = (
  λ is. absurd (stops_otherwise _ (order_of c.in-Some.command) _ _ c.in-Err.status c.in-Err.ensures.stops is),
  λ none. absurd
      (none (order_of c.in-Some.command) c.in-Some.ensures.some),
)

pub returns-in-Err-clause-runs : goal.returns-in-Err-clause-runs
returns-in-Err-clause-runs g c = λ other. (
  order_of c.in-Some.command,
  c.in-Some.ensures.some,
  stopped (order_of c.in-Some.command) (devices (g.D.Disk.files c.args.disk.now) (g.D.Disk.faults c.args.disk.now) (g.K.Sink.written c.args.out.now)
      (g.K.Sink.faults c.args.out.now))
      (devices (g.D.Disk.files c.answer_to.new.disk) (g.D.Disk.faults c.answer_to.new.disk) (g.K.Sink.written c.args.out.now) (g.K.Sink.faults c.args.out.now))
      c.in-Err.status c.in-Err.ensures.stops,
)

pub returns-in-Ok-write_all-clause-usage : goal.returns-in-Ok-write_all-clause-usage
returns-in-Ok-write_all-clause-usage g c = (
  λ is. absurd (no_usage _ (order_of c.in-Some.command) c.in-Ok.answer.printed.items c.in-Ok.answer.status c.in-Ok.ensures.answer is),
  λ none. absurd (none (order_of c.in-Some.command) c.in-Some.ensures.some),
)

pub returns-in-Ok-write_all-clause-runs : goal.returns-in-Ok-write_all-clause-runs
returns-in-Ok-write_all-clause-runs g c = λ other. (
  order_of c.in-Some.command,
  c.in-Some.ensures.some,
  answered (order_of c.in-Some.command) (devices (g.D.Disk.files c.args.disk.now) (g.D.Disk.faults c.args.disk.now) (g.K.Sink.written c.args.out.now)
      (g.K.Sink.faults c.args.out.now))
      (devices (g.D.Disk.files c.answer_to.new.disk) (g.D.Disk.faults c.answer_to.new.disk) (g.K.Sink.written c.write_all.new.sink)
      (g.K.Sink.faults c.write_all.new.sink))
      c.in-Ok.answer.printed.items c.in-Ok.answer.status c.in-Ok.ensures.answer
      (subst (λ (bytes : List ℕ). Appends (g.K.Sink.written c.args.out.now) (g.K.Sink.written c.write_all.new.sink) bytes) c.deref.ensures.value
      c.in-Ok-write_all.ensures.ok),
)

pub returns-clause-usage : goal.returns-clause-usage
returns-clause-usage g c = (λ is order command. cc, λ none. absurd (none (order_of c.in-Some.command) c.in-Some.ensures.some))

pub returns-clause-runs : goal.returns-clause-runs
returns-clause-runs g c = λ other. (
  order_of c.in-Some.command,
  c.in-Some.ensures.some,
  (
    c.in-Err-write_all.ensures.cause.failed,
    partly (order_of c.in-Some.command) (devices (g.D.Disk.files c.args.disk.now) (g.D.Disk.faults c.args.disk.now) (g.K.Sink.written c.args.out.now)
        (g.K.Sink.faults c.args.out.now))
        (devices (g.D.Disk.files c.answer_to.new.disk) (g.D.Disk.faults c.answer_to.new.disk) (g.K.Sink.written c.write_all.new.sink)
        (g.K.Sink.faults c.write_all.new.sink))
        c.in-Ok.answer.printed.items c.in-Ok.answer.status c.in-Ok.ensures.answer
        (subst (λ (bytes : List ℕ). AppendsPrefix (g.K.Sink.written c.args.out.now) (g.K.Sink.written c.write_all.new.sink) bytes) c.deref.ensures.value
        c.in-Err-write_all.ensures.prefix),
  ),
)
