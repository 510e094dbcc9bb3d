use Rattle.std.proofs.Common.{sym}
use Rattle.tool_commands.proofs.Answered.{partly_answered, shows_answer}
use Rattle.tool_commands.proofs.answers.report.Goals as goal

-- src/answers.rt:42:1
pub returns-in-Ok-write_all-clause-shows : goal.returns-in-Ok-write_all-clause-shows
returns-in-Ok-write_all-clause-shows g c =
    shows_answer c.args.width (g.S.Source.faults c.args.input.now) (g.K.Sink.faults c.args.out.now) (g.S.Source.faults c.read_all.new.source)
    (g.K.Sink.faults c.write_all.new.sink) c.in-Ok.text.items c.in-Ok-answer_to.answer.printed.items c.in-Ok-answer_to.answer.status
    c.in-Ok-answer_to.ensures
    (g.S.Source.left c.args.input.now) (g.S.Source.left c.read_all.new.source) (g.K.Sink.written c.args.out.now) (g.K.Sink.written c.write_all.new.sink)
    c.in-Ok.ensures.bytes (rw (sym c.deref.ensures.value) c.in-Ok-write_all.ensures.ok)

-- src/answers.rt:35:1
pub returns-clause-shows : goal.returns-clause-shows
returns-clause-shows g c = (
  c.in-Err-write_all.ensures.cause.failed,
  partly_answered c.args.width (g.S.Source.faults c.args.input.now) (g.K.Sink.faults c.args.out.now) (g.S.Source.faults c.read_all.new.source)
      (g.K.Sink.faults c.write_all.new.sink) c.in-Ok.text.items c.in-Ok-answer_to.answer.printed.items c.in-Ok-answer_to.answer.status c.in-Ok-answer_to.ensures
      (g.S.Source.left c.args.input.now) (g.S.Source.left c.read_all.new.source) (g.K.Sink.written c.args.out.now) (g.K.Sink.written c.write_all.new.sink)
      c.in-Ok.ensures.bytes (rw (sym c.deref.ensures.value) c.in-Err-write_all.ensures.prefix),
)
