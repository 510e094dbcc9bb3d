use Rattle.std.proofs.Common.{◌≡◌, arith, ap, ◌∙◌}
use Rattle.std.proofs.lemmas.Int.{ints, to_z-of_z}
use mir.Syntax.{w16}
use Rattle.base64_alphabet.specs.Lanes.{low_byte}
use Rattle.base64_alphabet.proofs.LanesLemmas.{range_lanes}
use Rattle.base64_alphabet.proofs.lanes.range_lanes.Goals as goal

pub returns : goal.returns
returns c =
    let e : c.low_byte.result ≡ low_byte c.args.offset = c.low_byte.ensures ∙ ap low_byte (to_z-of_z w16 c.args.offset c.ranges.offset) in
    rw e (range_lanes 32 c.args.first c.args.last c.args.offset c.args.c (omega arith) (omega arith) (omega (arith, ints)) (omega (arith, ints))
    c.requires.len c.requires.bytes)
