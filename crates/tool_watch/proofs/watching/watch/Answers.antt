use Rattle.std.proofs.Common.{refl}
use Rattle.command_line.specs.Outcome.{Streams}
use Rattle.tool_watch.proofs.Ends.{ends_well, unread_watches}
use Rattle.tool_watch.proofs.watching.watch.Goals as goal

pub returns-in-Err-clause-complete : goal.returns-in-Err-clause-complete
returns-in-Err-clause-complete g c = λ reads writes well.
    let before : Streams = record {
      left = g.S.Source.left c.args.input.now;
      read_faults = g.S.Source.faults c.args.input.now;
      written =
          g.K.Sink.written c.args.out.now;
      write_faults = g.K.Sink.faults c.args.out.now;
    } in
    let now : Streams = record {
      left = g.S.Source.left c.gather.new.input;
      read_faults = g.S.Source.faults c.gather.new.input;
      written =
          g.K.Sink.written c.args.out.now;
      write_faults = g.K.Sink.faults c.args.out.now;
    } in
    ends_well c.scripts_have_one_reading.ensures.one c.args.width c.args.workers before now c.in-Err.status
    (unread_watches c.args.width c.args.workers before now c.in-Err.status c.in-Err.ensures.unread refl) reads writes well
