-- What holds of every lawful update.
use Rattle.std.specs.Prelude.{◌≡◌, ℕ, List, [], ◌∷◌, true, Option, Some, None, Ok, IsOk, IfSome}
use Rattle.std.specs.List.{AllByRecursion}
use Rattle.spiffe_id.specs.SpiffeId.{id_of, id_text}
use Rattle.spiffe_id.specs.TrustDomain.{trust_domain_of}
use Rattle.spiffe_bundle.specs.KeySet.{key_set_of}
use Rattle.update_document.specs.Document.{IsReasonText}
use Rattle.identity_update.specs.Parts.{Bundle, Entry, UpdateParts}
use Rattle.identity_update.specs.Verdict.{has_bundle}

-- an entry and no reason, or a reason and no entry
abbrev pub HasOnePurpose : List Entry → Option (List ℕ) → Type 0
HasOnePurpose [] None = ⊥
HasOnePurpose [] (Some reason) = Unit {0}
HasOnePurpose (e ∷ es) None = Unit {0}
HasOnePurpose (e ∷ es) (Some reason) = ⊥

-- the two keys have one algorithm, and a public key in the private one is the public one
pub record HasOneKey (e : Entry) : Type 0 where
  pub algorithm : e.private_key.algorithm ≡ e.public_key.algorithm
  pub held : IfSome e.private_key.public_key (λ key. key ≡ e.public_key.key)

-- the id is what its canonical text is read as
abbrev pub HasCanonicalId : Entry → Type 0
HasCanonicalId e = id_of (id_text e.id) ≡ Ok e.id

-- the trust domain is what its name is read as
abbrev pub HasCanonicalDomain : Bundle → Type 0
HasCanonicalDomain b = trust_domain_of b.trust_domain ≡ Ok b.trust_domain

pub record IsLawful (u : UpdateParts) : Type 0 where
  pub purpose : HasOnePurpose u.entries u.reason
  pub reason : IfSome u.reason IsReasonText
  pub ids : AllByRecursion HasCanonicalId u.entries
  pub keys : AllByRecursion HasOneKey u.entries
  pub domains : AllByRecursion HasCanonicalDomain u.bundles
  pub key_sets : AllByRecursion (λ b. IsOk (key_set_of b.jwks)) u.bundles
  pub members : AllByRecursion (λ e. has_bundle e.id.trust_domain u.bundles ≡ true) u.entries
