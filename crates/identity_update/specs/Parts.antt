-- An update as plain data.
use Rattle.std.specs.Prelude.{ℕ, List, Option}
use Rattle.spiffe_id.specs.SpiffeId.{Id}
use Rattle.spki.specs.PlainPublicKey.{PlainPublicKey}
use Rattle.pkcs8.specs.PlainPrivateKey.{PlainPrivateKey}

-- an identity and its key pair
pub record Entry : Type 0 where
  pub id : Id
  pub private_key : PlainPrivateKey
  pub public_key : PlainPublicKey

-- a trust domain and its key set, as it was written
pub record Bundle : Type 0 where
  pub trust_domain : List ℕ
  pub jwks : List ℕ

-- an update: its entries, its bundles, and why identities were withdrawn
pub record UpdateParts : Type 0 where
  pub entries : List Entry
  pub bundles : List Bundle
  pub reason : Option (List ℕ)
