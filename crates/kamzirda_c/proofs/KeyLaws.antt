-- Lengths of the parts of keys' documents.
use Rattle.std.proofs.Common.{◌≡◌, ℕ, ◌≤◌, List, ◌∷◌, ◌++◌, length, ap, arith, length-append}
use Rattle.der_core.specs.Der.{encode}
use Rattle.der_core.specs.Laws.{length_encode}
use Rattle.der_core.specs.Tags.{bit_string_tag, sequence_tag}
use Rattle.spki.specs.PlainAlgorithm.{algorithm_der}
use Rattle.spki.specs.PlainPublicKey.{PlainPublicKey, ReadsPublicKey, public_key_der}

-- The octets of a public key are no longer than its document.
pub bits_fit : (bytes : List ℕ) (v : PlainPublicKey) → ReadsPublicKey bytes v → length v.key.octets ≤ length bytes
bits_fit bytes v r =
    let bits : List ℕ = v.key.unused_bits ∷ v.key.octets in
    let inner = length_encode bit_string_tag bits in
    let both = length-append (algorithm_der v.algorithm) (encode bit_string_tag bits) in
    let outer = length_encode sequence_tag (algorithm_der v.algorithm ++ encode bit_string_tag bits) in
    let whole : length bytes ≡ length (public_key_der v) = ap length r.is in
    omega (arith, inner, both, outer, whole)
