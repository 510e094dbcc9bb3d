use Rattle.update_document.proofs.DocumentLaws.{no_field_no_reason, same_reason, some_bytes}
use Rattle.update_document.proofs.document.reason_in.Goals as goal

pub returns-in_default-clause-none : goal.returns-in_default-clause-none
returns-in_default-clause-none c =
    no_field_no_reason c.args.bytes.now (some_bytes c.args.bytes.now c.is_empty.result c.is_empty.ensures c.if-is_empty.false) c.in_default.ensures.none

pub returns-then-not-is_empty-clause-none : goal.returns-then-not-is_empty-clause-none
returns-then-not-is_empty-clause-none c = λ reason r.
    let same = same_reason c.args.bytes.now c.in-Some.content.now c.in-Some.rest.now
    (some_bytes c.args.bytes.now c.is_empty.result c.is_empty.ensures c.if-is_empty.false) c.in-Some.ensures.value c.in-Some.ensures.fits reason r in
    some_bytes c.in-Some.rest.now c.is_empty-2.result c.is_empty-2.ensures c.if-not-is_empty.true same.rest_is

pub returns-in_default-reason_text-clause-none : goal.returns-in_default-reason_text-clause-none
returns-in_default-reason_text-clause-none c = λ reason r.
    let same = same_reason c.args.bytes.now c.in-Some.content.now c.in-Some.rest.now
    (some_bytes c.args.bytes.now c.is_empty.result c.is_empty.ensures c.if-is_empty.false) c.in-Some.ensures.value c.in-Some.ensures.fits reason r in
    c.in_default-reason_text.ensures.none same.reason
