use Rattle.std.proofs.Common.{◌≡◌, Ok, subst}
use Rattle.serde_json.specs.View.{view}
use Rattle.spiffe_bundle.specs.KeySet.{by_key_id, key_set_of}
use Rattle.bundle_document.specs.Document.{Document, IsReadable, keys_listed}
use Rattle.bundle_document.proofs.ValueLemmas.{key_set_accepted}
use Rattle.bundle_document.proofs.document.BundleDocument.jwks.Goals as goal

pub returns-clause-accepted : goal.returns-clause-accepted
returns-clause-accepted c =
    subst (λ (x : Document). IsReadable x → key_set_of c.as_slice.result.now ≡ Ok (by_key_id x.keys)) c.self.view_is
    (λ nests. rw c.as_slice.ensures.value (key_set_accepted (keys_listed (view c.self.inside.key_set)) c.self.inside.jwks.items c.self.invariant.1 nests))
