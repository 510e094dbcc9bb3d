-- What is answered of the text of an update.
use Rattle.std.specs.Prelude.{◌≡◌, ◌≢◌, ◌+◌, ℕ, List, [], ◌∷◌, ◌++◌, length}
use Rattle.std.specs.List.{flat_map}
use Rattle.sha2.specs.Sha256.{sha256}
use Rattle.spki.specs.PlainPublicKey.{public_key_der}
use Rattle.pkcs8.specs.PlainPrivateKey.{private_key_der}
use Rattle.spiffe_id.specs.SpiffeId.{id_text}
use Rattle.identity_update.specs.Parts.{Entry, UpdateParts}
use Rattle.identity_update.specs.Reading.{Refuses, Writes}
use Rattle.identity_update.specs.declared.error.UpdateError.{UpdateError}
use Rattle.identity_update.specs.declared.error.UpdateError.TheVariants.{OutOfMemory}
use Rattle.refusal_lines.specs.Refusal.{refusal_line}
use Rattle.kamzirda_c.specs.Rules.{update_rule_number}
use Rattle.kamzirda_c.specs.declared.updates.KamzirdaCounts.{KamzirdaCounts}
use Rattle.kamzirda_c.specs.declared.parts.KamzirdaEntry.{KamzirdaEntry}
use Rattle.kamzirda_c.specs.declared.parts.KamzirdaPart.{KamzirdaPart}

-- the text lawfully writes an update with so many entries and bundles
pub record HasCounts (width : ℕ) (text : List ℕ) (counts : KamzirdaCounts) : Type 0 where
  pub update : UpdateParts
  pub writes : Writes width text update
  pub entries : counts.entries ≡ length update.entries
  pub bundles : counts.bundles ≡ length update.bundles

-- the number is that of the first rule that the text breaks
pub record BreaksUpdateRule (width : ℕ) (text : List ℕ) (rule : ℕ) : Type 0 where
  pub error : UpdateError
  pub refuses : Refuses width text error
  pub broken : error ≢ OutOfMemory
  pub number : rule ≡ update_rule_number error

-- this is done with the programs' line of the first rule that the text breaks
pub record TellsRefusal (width : ℕ) (text : List ℕ) (Does : List ℕ → Type 0) : Type 0 where
  pub error : UpdateError
  pub refuses : Refuses width text error
  pub broken : error ≢ OutOfMemory
  pub does : Does (refusal_line error)

-- bytes of a caller's buffer from this place on
abbrev pub part_at : ℕ → List ℕ → KamzirdaPart
part_at at bytes = record { offset = at; len = length bytes }

-- what a buffer holds of an entry: its id, the document of its private key, that of its public key
abbrev pub entry_bytes : Entry → List ℕ
entry_bytes e = id_text e.id ++ (private_key_der e.private_key ++ public_key_der e.public_key)

-- what is told of an entry whose bytes begin at a place
abbrev pub entry_at : ℕ → Entry → KamzirdaEntry
entry_at at e = record {
  id = part_at at (id_text e.id);
  private_key = part_at (at + length (id_text e.id)) (private_key_der e.private_key);
  public_key = part_at (at + length (id_text e.id) + length (private_key_der e.private_key)) (public_key_der e.public_key);
  fingerprint = sha256 (public_key_der e.public_key);
}

-- what is told of entries whose bytes begin at a place, each behind those of the one before
abbrev pub entries_at : ℕ → List Entry → List KamzirdaEntry
entries_at at [] = []
entries_at at (e ∷ es) = entry_at at e ∷ entries_at (at + length (entry_bytes e)) es

-- the text lawfully writes an update, and this is done with what is told of its entries and with their bytes
pub record TellsEntries (width : ℕ) (text : List ℕ) (Does : List KamzirdaEntry → List ℕ → Type 0) : Type 0 where
  pub update : UpdateParts
  pub writes : Writes width text update
  pub does : Does (entries_at 0 update.entries) (flat_map entry_bytes update.entries)
