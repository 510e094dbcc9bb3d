use Rattle.identity_verify.proofs.OneDecoding.{decoding}
use Rattle.identity_verify.proofs.laws.base64url_texts_have_octets.Goals as goal

pub returns : goal.returns
returns c = decoding
