use Rattle.std.proofs.Common.{List, ℕ, take, subst}
use Rattle.tool_script.specs.Line.{Says}
use Rattle.tool_script.specs.Script.{Starts}
use Rattle.tool_script.specs.declared.line.Line.TheVariants as says
use Rattle.tool_script.proofs.Pending.{no_request, too_many}
use Rattle.tool_script.proofs.reading.next_request.Goals as goal

pub returns-then-count-ge-MOST_REQUESTS-clause-next : goal.returns-then-count-ge-MOST_REQUESTS-clause-next
returns-then-count-ge-MOST_REQUESTS-clause-next g c =
    let e = c.in-Ok-Some.ensures in
    let some = rw c.in-Ok-Some.field-0-is at e.some in
    let line : Says (take c.in-Ok-Some.n c.as_slice.result.now) (says.Request c.in-Request.form) = rw c.in-Request.is at c.in_ok-read_line.ensures in
    let starts : Starts c.line_length.new.ahead c.in-Ok-Some.n (says.Request c.in-Request.form) = record {
      fits = some.1;
      short = some.0;
      one = some.3;
      ended = some.2;
      is = subst (λ (l : List ℕ). Says (take c.in-Ok-Some.n l) (says.Request c.in-Request.form)) c.as_slice.ensures line;
    } in
    too_many c.line_length.new.ahead _ _ c.in-Ok-Some.n c.args.count c.args.most c.in-Request.form starts c.if-count-ge-MOST_REQUESTS.true e.pending

pub returns-in-Other-clause-next : goal.returns-in-Other-clause-next
returns-in-Other-clause-next g c =
    let e = c.in-Ok-Some.ensures in
    let some = rw c.in-Ok-Some.field-0-is at e.some in
    let line : Says (take c.in-Ok-Some.n c.as_slice.result.now) says.Other = rw c.in-Other.is at c.in_ok-read_line.ensures in
    let starts : Starts c.line_length.new.ahead c.in-Ok-Some.n says.Other = record {
      fits = some.1;
      short = some.0;
      one = some.3;
      ended = some.2;
      is = subst (λ (l : List ℕ). Says (take c.in-Ok-Some.n l) says.Other) c.as_slice.ensures line;
    } in
    no_request c.line_length.new.ahead _ _ c.in-Ok-Some.n c.args.count c.args.most starts e.pending
