-- What is answered of the text of a SPIFFE ID.
use Rattle.std.specs.Prelude.{◌≡◌, ◌≢◌, ◌+◌, ℕ, List, length, codes, Ok}
use Rattle.spiffe_id.specs.SpiffeId.{Id, id_of}
use Rattle.spiffe_id.specs.SpiffeIdError.{IsRefusal}
use Rattle.spiffe_id.specs.declared.error.SpiffeIdError.{SpiffeIdError}
use Rattle.spiffe_id.specs.declared.error.SpiffeIdError.TheVariants.{OutOfMemory}
use Rattle.kamzirda_c.specs.Rules.{id_rule_number}
use Rattle.kamzirda_c.specs.declared.ids.KamzirdaId.{KamzirdaId}

-- the text is an id; its trust domain stands behind `spiffe://`, and its path behind that
pub record IsIdAt (text : List ℕ) (place : KamzirdaId) : Type 0 where
  pub id : Id
  pub is : id_of text ≡ Ok id
  pub domain : place.domain_offset ≡ length (codes "spiffe://")
  pub domain_len : place.domain_len ≡ length id.trust_domain
  pub path : place.path_offset ≡ place.domain_offset + place.domain_len
  pub path_len : place.path_len ≡ length id.path

-- the number is that of the first rule of ids that the text breaks
pub record BreaksIdRule (text : List ℕ) (rule : ℕ) : Type 0 where
  pub error : SpiffeIdError
  pub refusal : IsRefusal (id_of text) error
  pub broken : error ≢ OutOfMemory
  pub number : rule ≡ id_rule_number error
