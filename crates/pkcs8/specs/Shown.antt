-- What `Debug` shows of a private key: its version, its algorithm and its public key, and nothing of its octets.
use Rattle.std.specs.Prelude.{ℕ, nat_lt, if◌then◌else◌, List, [], ◌∷◌, length, Option, Some, codes}
use Rattle.std.specs.Fmt.{◌++?◌, debug_list, debug_option, decimal}
use Rattle.der_core.specs.ObjectIdentifier.{oid_content}
use Rattle.der_core.specs.Oid.{oid_text}
use Rattle.spki.specs.declared.algorithm.AlgorithmIdentifier.{AlgorithmIdentifier}
use Rattle.pkcs8.specs.Version.{version_of}
use Rattle.pkcs8.specs.declared.version.Version.{Version}
use Rattle.pkcs8.specs.declared.version.Version.TheVariants.{V1, V2}

abbrev pub version_debug : Version → List ℕ
version_debug V1 = codes "V1"
version_debug V2 = codes "V2"

abbrev pub bytes_debug : List ℕ → Option (List ℕ)
bytes_debug = debug_list (λ (n : ℕ). Some (decimal n))

-- Of an encoding its bytes, where these are at most 128.
abbrev pub encoding_debug : List ℕ → Option (List ℕ)
encoding_debug bytes = if nat_lt 128 (length bytes) then Some (codes "..") else bytes_debug bytes

-- Of the content of a bit string its unused bits and its octets.
abbrev pub bits_debug : List ℕ → Option (List ℕ)
bits_debug [] = Some (codes "BitString")
bits_debug (unused_bits ∷ octets) =
    Some (codes "BitString { unused_bits: ") ++? Some (decimal unused_bits) ++? Some (codes ", octets: ") ++? bytes_debug octets ++? Some (codes " }")

-- The text, over the encoding of the parameters and the content of the public key.
abbrev pub key_debug : {P B : Type 0} → (P → List ℕ) → (B → List ℕ) → AlgorithmIdentifier P → Option B → Option (List ℕ)
key_debug encoding bits algorithm public =
    Some (codes "PrivateKeyInfo { version: ") ++? Some (version_debug (version_of public))
    ++? Some (codes ", algorithm: AlgorithmIdentifier { oid: ") ++? Some (oid_text (oid_content algorithm.oid))
    ++? Some (codes ", parameters: ") ++? debug_option (λ p. encoding_debug (encoding p)) algorithm.parameters
    ++? Some (codes " }, public_key: ") ++? debug_option (λ k. bits_debug (bits k)) public ++? Some (codes " }")
