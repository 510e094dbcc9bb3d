-- What a value of any tag reads.
use Rattle.std.proofs.Common.{◌<◌, ◌^◌, List, ℕ, length, sym, Err, ap, ◌∙◌}
use Rattle.std.proofs.lemmas.Result.{err_from_is_err_and}
use Rattle.der_core.specs.Decode.{ReadsAny, ReadsAny-one_value}
use Rattle.der_core.specs.Der.{encode}
use Rattle.der_core.specs.Laws.{content_fits}
use Rattle.der_core.proofs.Owned.{SameReads, owned_refusal}
use Rattle.der_core.specs.declared.any.AnyRef.{AnyRef}
use Rattle.der_small.specs.Document.{document_bytes}
use Rattle.der_small.specs.OneValue.{IsOneValue}
use Rattle.der_small.proofs.document.Document.from_der.Goals as goal

pub returns-in_err-from_der : goal.returns-in_err-from_der
returns-in_err-from_der c =
    let refused = err_from_is_err_and c.from_residual.result c.from_residual.ensures.1 in
    let Reads : List ℕ → AnyRef → Type 0 = λ b v. ReadsAny b v.tag.byte v.value.now in
    let same : SameReads Reads IsOneValue = record {
      plain = λ v. encode v.tag.byte v.value.now;
      plain_reads = λ b v r. record { is = sym r.is; one = ReadsAny-one_value b v.tag.byte v.value.now v.tag.valid r };
      borrowed = λ b p r. record {
        tag = record { byte = r.one.tag; valid = r.one.tag_ok };
        value = record c.args.bytes { now = r.one.content };
        small = let fits : length (encode r.one.tag r.one.content) < 2 ^ 32 = rw (← r.one.is) r.one.fits in content_fits r.one.tag r.one.content fits;
      };
      borrowed_reads = λ b p r. record { is = r.one.is; fits = r.one.fits };
    } in
    rw (refused.1 ∙ ap Err refused.2) (owned_refusal Reads IsOneValue document_bytes c.args.bytes.now c.in_err-from_der.field-0.0 same
    c.in_err-from_der.ensures)
