use Rattle.std.proofs.Common.{◌≡◌, refl, sym, ◌∙◌}
use Rattle.der_core.specs.declared.error.Error.TheVariants as error
use Rattle.std.proofs.lemmas.Result.{err_from_is_err_and}
use Rattle.update_document.specs.Document.{ReadsReason}
use Rattle.update_document.specs.Elements.{ReadsList}
use Rattle.der_core.specs.Sequence.{Then}
use Rattle.update_document.proofs.DocumentLaws.{list_at, no_list, same_error}
use Rattle.update_document.proofs.document.read_content.Goals as goal

pub returns-in_default-sequence_at-clause-none : goal.returns-in_default-sequence_at-clause-none
returns-in_default-sequence_at-clause-none g c = λ _ d doc.
    let first = list_at g.E.Decode.Reads (λ after. Then (ReadsList g.B.Decode.Reads) (ReadsReason d.reason) after d.bundles) c.args.content.now
    c.in-Some.identities.now c.in-Some.after.now c.in-Some.ensures.value c.in-Some.ensures.fits d.entries doc in
    no_list g.B.Decode.Reads (ReadsReason d.reason) c.in-Some.after.now d.bundles c.in_default-sequence_at.ensures.none first.next

pub returns-in_default-reason_in-clause-none : goal.returns-in_default-reason_in-clause-none
returns-in_default-reason_in-clause-none g c = λ _ d doc.
    let first = list_at g.E.Decode.Reads (λ after. Then (ReadsList g.B.Decode.Reads) (ReadsReason d.reason) after d.bundles) c.args.content.now
    c.in-Some.identities.now c.in-Some.after.now c.in-Some.ensures.value c.in-Some.ensures.fits d.entries doc in
    let second = list_at g.B.Decode.Reads (ReadsReason d.reason) c.in-Some.after.now c.in-Some-sequence_at.bundles.now c.in-Some-sequence_at.after.now
    c.in-Some-sequence_at.ensures.value c.in-Some-sequence_at.ensures.fits d.bundles first.next in
    c.in_default-reason_in.ensures.none d.reason second.next

pub returns-in_err-entries-clause-none : goal.returns-in_err-entries-clause-none
returns-in_err-entries-clause-none g c = λ malformed d doc.
    let first = list_at g.E.Decode.Reads (λ after. Then (ReadsList g.B.Decode.Reads) (ReadsReason d.reason) after d.bundles) c.args.content.now
    c.in-Some.identities.now c.in-Some.after.now c.in-Some.ensures.value c.in-Some.ensures.fits d.entries doc in
    let p = err_from_is_err_and c.from_residual.result c.from_residual.ensures.1 in
    let m : c.in_err-entries.field-0.0 ≡ error.Malformed = sym p.2 ∙ same_error p.0 error.Malformed _ _ p.1 refl malformed in
    c.in_err-entries.ensures.none (rw m refl) d.entries first.are

pub returns-in_err-bundles-clause-none : goal.returns-in_err-bundles-clause-none
returns-in_err-bundles-clause-none g c = λ malformed d doc.
    let first = list_at g.E.Decode.Reads (λ after. Then (ReadsList g.B.Decode.Reads) (ReadsReason d.reason) after d.bundles) c.args.content.now
    c.in-Some.identities.now c.in-Some.after.now c.in-Some.ensures.value c.in-Some.ensures.fits d.entries doc in
    let second = list_at g.B.Decode.Reads (ReadsReason d.reason) c.in-Some.after.now c.in-Some-sequence_at.bundles.now c.in-Some-sequence_at.after.now
    c.in-Some-sequence_at.ensures.value c.in-Some-sequence_at.ensures.fits d.bundles first.next in
    let p = err_from_is_err_and c.from_residual-in_err-bundles.result c.from_residual-in_err-bundles.ensures.1 in
    let m : c.in_err-bundles.field-0.0 ≡ error.Malformed = sym p.2 ∙ same_error p.0 error.Malformed _ _ p.1 refl malformed in
    c.in_err-bundles.ensures.none (rw m refl) d.bundles second.are
