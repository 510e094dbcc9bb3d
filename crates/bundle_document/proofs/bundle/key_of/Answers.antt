use Rattle.serde_json.specs.View.{view}
use Rattle.bundle_document.proofs.ValueLemmas.{IsTokenKey, authority_key}
use Rattle.bundle_document.proofs.bundle.key_of.Goals as goal

made : (c : goal.In_ok-key-in-Ok) → IsTokenKey (view c.in_ok-key-in-Ok.key)
made c =
    authority_key c.args.authority.now.key_id c.args.authority.now.jwk_json (view c.in-Ok.value) (view c.in_ok-key-in-Ok.key) c.jwk_json.ensures.valid
    (rw c.jwk_json.ensures.json at c.in-Ok.ensures.ok) c.in-Ok.ensures.whole c.in_ok-key-in-Ok.ensures

pub returns-in_ok-key-in-Ok-clause-whole : goal.returns-in_ok-key-in-Ok-clause-whole
returns-in_ok-key-in-Ok-clause-whole c = (made c).whole

pub returns-in_ok-key-in-Ok-clause-jwt : goal.returns-in_ok-key-in-Ok-clause-jwt
returns-in_ok-key-in-Ok-clause-jwt c = (made c).jwt

pub returns-in_ok-key-in-Ok-clause-named : goal.returns-in_ok-key-in-Ok-clause-named
returns-in_ok-key-in-Ok-clause-named c = (made c).named
