use Rattle.std.proofs.Common.{arith}
use Rattle.update_document.specs.Refs.{written_update}
use Rattle.update_document.proofs.FitsLaws.{document_le}
use Rattle.identity_update.specs.Reading.{Refuses}
use Rattle.identity_update.proofs.ReadingLaws.{rule_refused}
use Rattle.identity_update.proofs.Results.{passed_on}
use Rattle.identity_update.proofs.update.Update.read.Goals as goal

pub judge-requires-clause-fits : goal.judge-requires-clause-fits
judge-requires-clause-fits c =
    let w = written_update c.in_ok-document.document in
    let written = document_le c.deref.result.now w c.in_ok-document.ensures.ok in
    let small = c.in_ok-document.ensures.ok.fits in
    omega arith

pub returns-in_err-parts-clause-refusal : goal.returns-in_err-parts-clause-refusal
returns-in_err-parts-clause-refusal c =
    let w = written_update c.in_ok-document.document in
    passed_on (Refuses c.args.width c.args.text.now) _ c.in_err-parts.field-0.0 c.from_residual-in_err-parts.ensures.1
    (rule_refused c.args.width c.args.text.now w c.in_err-parts.field-0.0
    (record {
      has = c.in_ok-bytes.ensures.ok.0;
      bytes = c.in_ok-bytes.bytes.items;
      are = c.in_ok-bytes.ensures.ok.1;
      document = rw c.deref.ensures.value at c.in_ok-document.ensures.ok;
    }) c.in_err-parts.ensures.refusal)
