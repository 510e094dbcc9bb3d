use Rattle.std.proofs.Common.{◌≡◌, [], length, ap, arith}
use Rattle.identity_update.specs.Checked.{checked_entry}
use Rattle.identity_update.proofs.PlacesLaws.{entry_der}
use Rattle.identity_update.proofs.PlacesLaws.{bits_end, found_in, room}
use Rattle.identity_update.proofs.places.bits_place.Goals as goal

pub before-requires : goal.before-requires
before-requires c =
    let r = room c.args.document.now (entry_der (checked_entry c.args.entry.now)) (checked_entry c.args.entry.now).public_key.key.octets [] c.args.end
    c.requires.stands (bits_end (checked_entry c.args.entry.now)) in
    let same : length c.raw_bytes.result.now ≡ length (checked_entry c.args.entry.now).public_key.key.octets = ap length c.raw_bytes.ensures in
    omega (arith, r, same)

pub returns : goal.returns
returns c =
    let same : length c.raw_bytes.result.now ≡ length (checked_entry c.args.entry.now).public_key.key.octets = ap length c.raw_bytes.ensures in
    let end = c.before-2.ensures.end in
    let start = c.before-2.ensures.start in
    found_in c.args.document.now (entry_der (checked_entry c.args.entry.now)) (checked_entry c.args.entry.now).public_key.key.octets [] c.args.end
    c.before-2.result c.requires.stands (bits_end (checked_entry c.args.entry.now)) (omega arith) (omega arith)
