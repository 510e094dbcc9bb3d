-- What the borrowed form reads.
use Rattle.std.proofs.Common.{◌≡◌, List, ℕ, Err, ap, ◌∙◌}
use Rattle.std.proofs.lemmas.Result.{err_from_is_err_and}
use Rattle.der_core.specs.Decode.{ReadsTagged}
use Rattle.der_core.proofs.Owned.{same_tagged, owned_refusal}
use Rattle.der_small.specs.OctetString.{octets_ref, octets}
use Rattle.der_small.specs.declared.octet_string.OctetStringRef.{OctetStringRef}
use Rattle.der_small.proofs.octet_string.OctetString.from_der.Goals as goal

pub returns-in_err-from_der : goal.returns-in_err-from_der
returns-in_err-from_der c =
    let refused = err_from_is_err_and c.from_residual.result c.from_residual.ensures.1 in
    let Has : List ℕ → OctetStringRef → Type 0 = λ b v. v.bytes.now ≡ b in
    let HasPlain : List ℕ → List ℕ → Type 0 = λ content octets. octets ≡ content in
    let same = same_tagged 4 Has HasPlain octets_ref
    (λ b v h. h)
    (λ b p h fits. record { bytes = record c.args.bytes { now = p }; small = rw h fits })
    (λ b p h fits. h) in
    rw (refused.1 ∙ ap Err refused.2) (owned_refusal (ReadsTagged 4 Has) (ReadsTagged 4 HasPlain) octets c.args.bytes.now c.in_err-from_der.field-0.0 same
    c.in_err-from_der.ensures)
