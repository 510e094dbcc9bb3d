use Rattle.std.proofs.Common.{arith}
use Rattle.tool_script.specs.Script.{Starts}
use Rattle.tool_script.specs.declared.line.Form.TheVariants as form
use Rattle.tool_script.specs.declared.line.Line.TheVariants as says
use Rattle.tool_script.proofs.Pending.{bundle_taken}
use Rattle.tool_script.proofs.reading.take_request.Goals as goal

pub returns-in-Bundle-clause-next : goal.returns-in-Bundle-clause-next
returns-in-Bundle-clause-next g c =
    let starts : Starts c.args.ahead.now c.args.n (says.Request (form.Bundle c.in-Bundle.domain)) = rw c.in-Bundle.is at c.requires.begun in
    let taken = bundle_taken c.args.ahead.now c.skip-in-Bundle.new.self (g.S.Source.left c.args.source.now) c.args.n c.in-Bundle.domain starts
    c.skip-in-Bundle.ensures in
    (taken.0, taken.1, taken.2, c.requires.few, omega arith)
