use Rattle.base64_alphabet.proofs.GroupsLemmas.{or_place, or_bad}
use Rattle.base64_alphabet.proofs.groups.either.Goals as goal

pub returns : goal.returns
returns c = record {
  place = or_place c.args.x c.args.y c.requires.first c.requires.second;
  bad = or_bad c.args.x c.args.y c.requires.first c.requires.second;
}
