-- What the borrowed form reads.
use Rattle.std.proofs.Common.{◌<◌, ◌^◌, List, ℕ, length, Err, ap, ◌∙◌}
use Rattle.std.proofs.lemmas.Result.{err_from_is_err_and}
use Rattle.der_core.specs.Any.{plain_ref, plain_any, ReadsPlain}
use Rattle.der_core.specs.Decode.{ReadsAny}
use Rattle.der_core.specs.Der.{encode}
use Rattle.der_core.specs.Laws.{content_fits}
use Rattle.der_core.proofs.Owned.{SameReads, owned_refusal, owned_value}
use Rattle.der_core.specs.declared.any.AnyRef.{AnyRef}
use Rattle.der_core.proofs.any.Any.from_der.Goals as goal

pub returns-in_err-from_der : goal.returns-in_err-from_der
returns-in_err-from_der c =
    let p = err_from_is_err_and c.from_residual.result c.from_residual.ensures.1 in
    let Reads : List ℕ → AnyRef → Type 0 = λ b v. ReadsAny b v.tag.byte v.value.now in
    let same : SameReads Reads ReadsPlain = record {
      plain = plain_ref;
      plain_reads = λ b v r. record { tag_ok = v.tag.valid; is = r.is; fits = r.fits };
      borrowed = λ b p r. record {
        tag = record { byte = p.tag; valid = r.tag_ok };
        value = record c.args.bytes { now = p.content };
        small = let fits : length (encode p.tag p.content) < 2 ^ 32 = rw (← r.is) r.fits in content_fits p.tag p.content fits;
      };
      borrowed_reads = λ b p r. record { is = r.is; fits = r.fits };
    } in
    rw (p.1 ∙ ap Err p.2) (owned_refusal Reads ReadsPlain plain_any c.args.bytes.now c.in_err-from_der.field-0.0 same c.in_err-from_der.ensures)

pub returns : goal.returns
returns c =
    let reads : ReadsPlain c.args.bytes.now (plain_ref c.in_ok-from_der.field-0) =
    record { tag_ok = c.in_ok-from_der.field-0.tag.valid; is = c.in_ok-from_der.ensures.is; fits = c.in_ok-from_der.ensures.fits } in
    owned_value ReadsPlain plain_any c.args.bytes.now (plain_ref c.in_ok-from_der.field-0) c.ref_to_owned.result reads c.ref_to_owned.ensures
