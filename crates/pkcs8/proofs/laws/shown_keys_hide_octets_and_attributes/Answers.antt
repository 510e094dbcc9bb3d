use Rattle.pkcs8.proofs.DebugText.{key_some}
use Rattle.pkcs8.proofs.laws.shown_keys_hide_octets_and_attributes.Goals as goal

pub returns-clause-shown : goal.returns-clause-shown
returns-clause-shown g c = λ v. key_some g.Params.Encode.encoding g.PubKey.BitStringLike.bits v.algorithm v.public_key
