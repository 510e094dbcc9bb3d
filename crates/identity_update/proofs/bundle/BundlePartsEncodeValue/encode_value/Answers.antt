use Rattle.std.proofs.Common.{◌≡◌, length, Err, ap, ◌∙◌, arith}
use Rattle.std.proofs.lemmas.Result.{err_from_is_err_and}
use Rattle.der_core.specs.Der.{encode}
use Rattle.der_core.specs.Writing.{wrote_refused, wrote_then}
use Rattle.der_small.specs.OctetString.{octets_ref}
use Rattle.der_small.specs.Utf8.{text_ref}
use Rattle.identity_update.specs.Bundle.{plain_bundle}
use Rattle.identity_update.proofs.BundleLaws.{jwks_le}
use Rattle.identity_update.proofs.bundle.BundlePartsEncodeValue.encode_value.Goals as goal

pub returns-in_err-new-2-clause-wrote : goal.returns-in_err-new-2-clause-wrote
returns-in_err-new-2-clause-wrote g c =
    let le = jwks_le (plain_bundle c.args.self.now) in
    let same : length c.deref.result.now ≡ length (plain_bundle c.args.self.now).jwks = ap length c.deref.ensures.value in
    absurd (omega (arith, c.in_err-new-2.ensures.overlength.1, c.in_ok-value_len.ensures.1, le, same))

pub returns-in_err-encode-clause-wrote : goal.returns-in_err-encode-clause-wrote
returns-in_err-encode-clause-wrote g c =
    let p = err_from_is_err_and c.from_residual-in_err-encode.result c.from_residual-in_err-encode.ensures.1 in
    let text : text_ref c.in_ok-new.field-0 ≡ (plain_bundle c.args.self.now).trust_domain = c.in_ok-new.ensures.value ∙ c.as_str.ensures.name in
    wrote_refused (encode 4 (plain_bundle c.args.self.now).jwks) (rw text at c.in_err-encode.ensures.wrote) (p.1 ∙ ap Err p.2) c.in_ok-value_len.ensures.1

pub returns-clause-wrote : goal.returns-clause-wrote
returns-clause-wrote g c =
    let text : text_ref c.in_ok-new.field-0 ≡ (plain_bundle c.args.self.now).trust_domain = c.in_ok-new.ensures.value ∙ c.as_str.ensures.name in
    let jwks : octets_ref c.in_ok-new-2.field-0 ≡ (plain_bundle c.args.self.now).jwks = c.in_ok-new-2.ensures.value ∙ c.deref.ensures.value in
    wrote_then (rw text at c.in_ok-encode.ensures.wrote) c.encode.ensures.count (rw jwks at c.encode-2.ensures.wrote) c.in_ok-value_len.ensures.1
