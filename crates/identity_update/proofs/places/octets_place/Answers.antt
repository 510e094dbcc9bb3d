use Rattle.std.proofs.Common.{◌≡◌, length, ap, length-append, arith}
use Rattle.identity_update.specs.Checked.{checked_entry}
use Rattle.spki.specs.PlainPublicKey.{public_key_der}
use Rattle.identity_update.specs.Places.{attributes_field, behind_attributes, behind_octets, held_field}
use Rattle.identity_update.proofs.PlacesLaws.{behind_fits, entry_der, found_in, octets_end, room}
use Rattle.identity_update.proofs.places.octets_place.Goals as goal

pub attributes_len-attributes-requires : goal.attributes_len-attributes-requires
attributes_len-attributes-requires c = let fits = behind_fits c.args.document.now (checked_entry c.args.entry.now) c.args.end c.requires.stands
    c.requires.small in omega arith

pub overflow_add-attributes : goal.overflow_add-attributes
overflow_add-attributes c =
    let e = checked_entry c.args.entry.now in
    let fits = behind_fits c.args.document.now e c.args.end c.requires.stands c.requires.small in
    let both = length-append (held_field e.private_key.public_key) (public_key_der e.public_key) in
    omega (arith, fits, both, c.attributes_len-attributes.ensures, c.behind_attributes_len-back.ensures)

pub before-requires : goal.before-requires
before-requires c =
    let e = checked_entry c.args.entry.now in
    let r = room c.args.document.now (entry_der e) e.private_key.private_key (behind_octets e) c.args.end c.requires.stands (octets_end e) in
    let sum = length-append (attributes_field e.private_key.attributes) (behind_attributes e) in
    let octets : length c.as_bytes.result.now ≡ length (checked_entry c.args.entry.now).private_key.private_key = ap length c.as_bytes.ensures in
    omega (arith, r, sum, octets, c.attributes_len-attributes.ensures, c.behind_attributes_len-back.ensures)

pub returns : goal.returns
returns c =
    let e = checked_entry c.args.entry.now in
    let sum = length-append (attributes_field e.private_key.attributes) (behind_attributes e) in
    let octets : length c.as_bytes.result.now ≡ length (checked_entry c.args.entry.now).private_key.private_key = ap length c.as_bytes.ensures in
    let end = c.before-2.ensures.end in
    let start = c.before-2.ensures.start in
    let attributes = c.attributes_len-attributes.ensures in
    let back = c.behind_attributes_len-back.ensures in
    found_in c.args.document.now (entry_der e) e.private_key.private_key (behind_octets e) c.args.end c.before-2.result c.requires.stands (octets_end e)
    (omega arith) (omega arith)
