use Rattle.std.proofs.Common.{◌≡◌, ◌∙◌, ap}
use Rattle.identity_verify.specs.Verdict.{bundle_rule, key_id_rule, authority_for}
use Rattle.identity_verify.specs.Authority.{supported_rule}
use Rattle.identity_verify.proofs.Chains.{two_hold}
use Rattle.identity_verify.proofs.verify.authority_for.Goals as goal

pub returns-clause-err : goal.returns-clause-err
unfolding authority_for
returns-clause-err g c =
    let svid = c.args.svid.now in
    let source = g.B.BundleSource.answer c.args.bundles.now in
    let d : c.trust_domain.result.now ≡ svid.spiffe_id.trust_domain = c.trust_domain.ensures ∙ ap (λ i. i.trust_domain) c.spiffe_id.ensures.id in
    let one = rw c.alg.ensures at c.in_ok-check_supported.ensures in
    let two = rw (d, ← c.deref.ensures) at c.in_ok-bundle.ensures.ok in
    let same = two_hold (supported_rule svid.alg) (bundle_rule svid.spiffe_id.trust_domain (source svid.spiffe_id.trust_domain)) (key_id_rule svid.key_id)
    c.in_ok-check_supported.field-0 c.deref.result.now one two in
    let found = rw c.key_id.ensures at c.find_authority.ensures.err in
    rw same found
