use Rattle.std.proofs.Common.{◌≡◌, length, ap, ◌∙◌, arith}
use Rattle.std.proofs.lemmas.Result.{err_from_is_err_and}
use Rattle.identity_update.specs.Bundle.{plain_bundle}
use Rattle.identity_update.proofs.BundleLaws.{jwks_le}
use Rattle.identity_update.proofs.bundle.BundlePartsEncodeValue.value_len.Goals as goal

pub returns-in_err-new-2 : goal.returns-in_err-new-2
returns-in_err-new-2 c =
    let p = err_from_is_err_and c.from_residual-in_err-new-2.result c.from_residual-in_err-new-2.ensures.1 in
    let le = jwks_le (plain_bundle c.args.self.now) in
    let same : length c.deref.result.now ≡ length (plain_bundle c.args.self.now).jwks = ap length c.deref.ensures.value in
    rw p.1 (p.2 ∙ c.in_err-new-2.ensures.overlength.0, omega (arith, c.in_err-new-2.ensures.overlength.1, le, same))
