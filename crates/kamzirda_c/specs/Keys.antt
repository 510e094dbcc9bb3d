-- What is answered of the documents of keys.
use Rattle.std.specs.Prelude.{◌≡◌, ◌⊎◌, ◌+◌, ℕ, List, length}
use Rattle.sha2.specs.Sha256.{sha256}
use Rattle.der_core.specs.Decode.{NoFront, Trails}
use Rattle.der_core.specs.Oid.{oid_text}
use Rattle.spki.specs.PlainPublicKey.{PlainPublicKey, ReadsPublicKey}
use Rattle.kamzirda_c.specs.Rules.{malformed, trailing_data}
use Rattle.kamzirda_c.specs.declared.keys.KamzirdaBits.{KamzirdaBits}

-- the rule that a document of this grammar breaks: no front of the bytes is one, or more follows it
abbrev pub BreaksDocument : {V : Type 0} → (List ℕ → V → Type 0) → List ℕ → ℕ → Type 0
BreaksDocument {V = V} Reads bytes rule =
    ((rule ≡ malformed) × NoFront Reads bytes)
    ⊎ ((rule ≡ trailing_data) × ((decoded : ℕ) × (remaining : ℕ) × Trails Reads bytes decoded remaining))

-- the bytes are the document of a public key with this fingerprint (RFC 7469, 2.4)
pub record HasFingerprint (bytes fingerprint : List ℕ) : Type 0 where
  pub key : PlainPublicKey
  pub reads : ReadsPublicKey bytes key
  pub digest : fingerprint ≡ sha256 bytes

-- the bytes are the document of a public key, and this is done with its algorithm's identifier in dotted decimals
pub record WritesOid (bytes : List ℕ) (Does : List ℕ → Type 0) : Type 0 where
  pub key : PlainPublicKey
  pub reads : ReadsPublicKey bytes key
  pub does : Does (oid_text key.algorithm.oid)

-- the bytes are the document of a public key, whose octets are its last bytes
pub record HasBits (bytes : List ℕ) (bits : KamzirdaBits) : Type 0 where
  pub key : PlainPublicKey
  pub reads : ReadsPublicKey bytes key
  pub unused_bits : bits.unused_bits ≡ key.key.unused_bits
  pub len : bits.len ≡ length key.key.octets
  pub last : bits.offset + bits.len ≡ length bytes
