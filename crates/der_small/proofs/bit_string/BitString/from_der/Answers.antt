-- What the borrowed form reads.
use Rattle.std.proofs.Common.{◌≡◌, ◌∷◌, List, ℕ, Err, ap, ◌∙◌}
use Rattle.std.proofs.lemmas.Result.{err_from_is_err_and}
use Rattle.der_core.specs.Decode.{ReadsTagged}
use Rattle.der_core.proofs.Owned.{same_tagged, owned_refusal}
use Rattle.der_small.specs.Bits.{BitsContent}
use Rattle.der_small.specs.BitString.{plain_bits_ref, plain_bits}
use Rattle.der_small.specs.declared.bit_string.BitStringRef.{BitStringRef}
use Rattle.der_small.proofs.bit_string.BitString.from_der.Goals as goal

pub returns-in_err-from_der : goal.returns-in_err-from_der
returns-in_err-from_der c =
    let refused = err_from_is_err_and c.from_residual.result c.from_residual.ensures.1 in
    let Has : List ℕ → BitStringRef → Type 0 = λ b v. b ≡ v.unused_bits ∷ v.raw.now in
    let same = same_tagged 3 Has BitsContent plain_bits_ref
    (λ b v h. record { bits = v.are_bits; is = h })
    (λ b p h fits. record { unused_bits = p.unused_bits; raw = record c.args.bytes { now = p.octets }; are_bits = h.bits })
    (λ b p h fits. h.is) in
    rw (refused.1 ∙ ap Err refused.2) (owned_refusal (ReadsTagged 3 Has) (ReadsTagged 3 BitsContent) plain_bits c.args.bytes.now c.in_err-from_der.field-0.0
    same c.in_err-from_der.ensures)
