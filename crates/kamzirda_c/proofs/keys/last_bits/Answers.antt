use Rattle.std.proofs.Common.{◌≡◌, length, ap, arith}
use Rattle.spki.specs.PlainPublicKey.{plain_public_key}
use Rattle.kamzirda_c.proofs.KeyLaws.{bits_fit}
use Rattle.kamzirda_c.proofs.keys.last_bits.Goals as goal

pub overflow_sub-result : goal.overflow_sub-result
overflow_sub-result c =
    let fit = bits_fit c.args.document.now (plain_public_key c.args.key.now) c.requires in
    let same : length c.raw_bytes-octets.result.now ≡ length (plain_public_key c.args.key.now).key.octets = ap length c.raw_bytes-octets.ensures in
    omega (arith, fit, same)

pub returns-clause-last : goal.returns-clause-last
returns-clause-last c =
    let fit = bits_fit c.args.document.now (plain_public_key c.args.key.now) c.requires in
    let same : length c.raw_bytes-octets.result.now ≡ length (plain_public_key c.args.key.now).key.octets = ap length c.raw_bytes-octets.ensures in
    omega (arith, fit, same)
