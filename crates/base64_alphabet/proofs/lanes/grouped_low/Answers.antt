use Rattle.std.proofs.Common.{ap, ◌∙◌}
use Rattle.base64_alphabet.proofs.GroupedLemmas.{each_lane, low_lanes, low_lanes_are}
use Rattle.base64_alphabet.proofs.lanes.grouped_low.Goals as goal

pub returns-clause-bytes : goal.returns-clause-bytes
returns-clause-bytes c h = ap low_lanes (each_lane c.args.digits c.requires) ∙ low_lanes_are c.args.digits h
