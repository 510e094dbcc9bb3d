use Rattle.base64_alphabet.proofs.LanesLemmas.{all_places}
use Rattle.base64_alphabet.proofs.lanes.are_places.Goals as goal

pub returns : goal.returns
returns c = all_places c.args.bytes c.requires
