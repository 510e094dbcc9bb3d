use Rattle.std.proofs.Common.{ap, ◌∙◌}
use Rattle.base64_alphabet.proofs.GroupedLemmas.{each_lane, high_lanes, high_lanes_are}
use Rattle.base64_alphabet.proofs.lanes.grouped_high.Goals as goal

pub returns-clause-bytes : goal.returns-clause-bytes
returns-clause-bytes c h = ap high_lanes (each_lane c.args.digits c.requires) ∙ high_lanes_are c.args.digits h
