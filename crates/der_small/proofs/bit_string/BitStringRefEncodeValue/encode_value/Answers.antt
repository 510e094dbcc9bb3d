-- The count of unused bits, and then the octets.
use Rattle.std.proofs.Common.{◌<◌, ◌^◌, ◌+◌, ◌∷◌, [], length, arith}
use Rattle.der_core.specs.Writing.{wrote_behind, wrote_slice}
use Rattle.der_small.proofs.bit_string.BitStringRefEncodeValue.encode_value.Goals as goal

pub returns-clause-wrote : goal.returns-clause-wrote
returns-clause-wrote g c =
    let small : length c.args.self.now.raw.now + 1 < 2 ^ 32 = c.args.self.now.are_bits.small in
    wrote_behind (c.args.self.now.unused_bits ∷ []) c.in_ok-write.ensures.told c.write.ensures.count
    (wrote_slice c.args.self.now.raw.now c.write-2.ensures.told c.write-2.ensures.refused (omega arith)) (omega arith)
