-- Fingerprints of public keys (RFC 7469, 2.4): the digest of the whole encoding.
use Rattle.std.specs.Prelude.{◌≡◌, ℕ, ◌≤◌, ◌^◌, true, List, length}
use Rattle.base64_alphabet.specs.Encoding.{encoding_of}
use Rattle.base64_alphabet.specs.Standard.{standard_padded}
use Rattle.sha2.specs.Sha256.{sha256}
use Rattle.der_core.specs.declared.error.Error.TheVariants as der
use Rattle.spki.specs.declared.error.Error.{Error}
use Rattle.spki.specs.declared.error.Error.TheVariants as error

-- The padded Base64 of a list of bytes (RFC 4648, 4).
abbrev pub base64_text : List ℕ → List ℕ
base64_text bytes = encoding_of standard_padded bytes

-- The fingerprint of a public key with this document, as people compare it.
abbrev pub fingerprint_of : List ℕ → List ℕ
fingerprint_of document = base64_text (sha256 document)

-- Why an encoding has no fingerprint and no document.
abbrev pub IsOverlength : List ℕ → Error → Type 0
IsOverlength encoding e = (e ≡ error.Asn1 der.Overlength) × (2 ^ 32 ≤ length encoding)

-- The same, where memory is taken too.
abbrev pub IsOverlengthOrMemory : List ℕ → Error → Type 0
IsOverlengthOrMemory encoding error.OutOfMemory = Unit {0}
IsOverlengthOrMemory encoding (error.Asn1 der.Overlength) = 2 ^ 32 ≤ length encoding
IsOverlengthOrMemory encoding _ = ⊥
