use Rattle.base64_alphabet.proofs.LanesLemmas.{widened_lanes}
use Rattle.base64_alphabet.proofs.lanes.widened.Goals as goal

pub returns : goal.returns
returns c = widened_lanes 32 c.args.bytes c.requires c.fits-bytes.1
