use Rattle.tool_script.proofs.Sessions.{ends_well, not_begun}
use Rattle.tool_script.proofs.serving.session.Goals as goal

pub returns-in_default-clause-serves : goal.returns-in_default-clause-serves
returns-in_default-clause-serves g c = not_begun c.args.width 0 0 0 0 (g.S.Source.left c.args.input.now) (g.K.Sink.written c.args.out.now)

pub returns-clause-complete : goal.returns-clause-complete
returns-clause-complete g c = λ reads writes well. ends_well c.scripts_have_one_reading.ensures.one c.args.width _ _ c.serve-status.result
    c.serve-status.ensures.serves reads writes well
