use Rattle.std.proofs.Common.{◌≡◌, ℕ, List, length, Option, option_map, refl, ap, arith}
use Rattle.identity_update.specs.Checked.{checked_entry}
use Rattle.pkcs8.specs.Attributes.{attributes_bytes_ref}
use Rattle.pkcs8.specs.declared.attributes.AttributesRef.{AttributesRef}
use Rattle.identity_update.specs.Places.{behind_attributes}
use Rattle.identity_update.proofs.PlacesLaws.{attributes_end, entry_der, found_in, room}
use Rattle.identity_update.proofs.places.attributes_place.Goals as goal

pub before-requires : goal.before-requires
before-requires c =
    let is = ap (λ (o : Option AttributesRef). option_map attributes_bytes_ref o) c.in-Some.is in
    let content : List ℕ = attributes_bytes_ref c.in-Some.attributes in
    let r = room c.args.document.now (entry_der (checked_entry c.args.entry.now)) content (behind_attributes (checked_entry c.args.entry.now)) c.args.end
    c.requires.stands (attributes_end (checked_entry c.args.entry.now) content is) in
    let same : length c.as_bytes.result.now ≡ length content = ap length c.as_bytes.ensures in
    omega (arith, r, same, c.behind_attributes_len-back.ensures)

pub returns-in-Some-clause-value : goal.returns-in-Some-clause-value
returns-in-Some-clause-value c =
    let is = ap (λ (o : Option AttributesRef). option_map attributes_bytes_ref o) c.in-Some.is in
    let content : List ℕ = attributes_bytes_ref c.in-Some.attributes in
    let same : length c.as_bytes.result.now ≡ length content = ap length c.as_bytes.ensures in
    let end = c.before-in-Some.ensures.end in
    let start = c.before-in-Some.ensures.start in
    let back = c.behind_attributes_len-back.ensures in
    let found = found_in c.args.document.now (entry_der (checked_entry c.args.entry.now)) content (behind_attributes (checked_entry c.args.entry.now))
    c.args.end c.before-in-Some.result c.requires.stands (attributes_end (checked_entry c.args.entry.now) content is) (omega arith) (omega arith) in
    rw (c.in-Some.is, found.is) refl
