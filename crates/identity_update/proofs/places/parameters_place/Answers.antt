use Rattle.std.proofs.Common.{◌≡◌, length, option_map, refl, ap, arith}
use Rattle.identity_update.specs.Checked.{checked_entry}
use Rattle.identity_update.proofs.PlacesLaws.{entry_der}
use Rattle.der_core.specs.Any.{plain_ref}
use Rattle.der_core.specs.declared.any.AnyRef.{AnyRef}
use Rattle.std.proofs.Common.{Option}
use Rattle.identity_update.proofs.PlacesLaws.{bits_field, field_end, parameters_end, found_in, room, tail_fits}
use Rattle.identity_update.proofs.places.parameters_place.Goals as goal

pub len_of-back-requires : goal.len_of-back-requires
len_of-back-requires c = tail_fits c.args.document.now (entry_der (checked_entry c.args.entry.now)) (bits_field (checked_entry c.args.entry.now)) c.args.end
    c.requires.stands (field_end (checked_entry c.args.entry.now)) c.requires.small

pub before-requires : goal.before-requires
before-requires c =
    let is = ap (λ (o : Option AnyRef). option_map plain_ref o) c.in-Some.is in
    let r = room c.args.document.now (entry_der (checked_entry c.args.entry.now)) (plain_ref c.in-Some.parameters).content
    (bits_field (checked_entry c.args.entry.now)) c.args.end c.requires.stands
    (parameters_end (checked_entry c.args.entry.now) (plain_ref c.in-Some.parameters) is) in
    let same : length c.value.result.now ≡ length (plain_ref c.in-Some.parameters).content = ap length c.value.ensures in
    omega (arith, r, same, c.len_of-back.ensures)

pub returns-in-Some-clause-value : goal.returns-in-Some-clause-value
returns-in-Some-clause-value c =
    let is = ap (λ (o : Option AnyRef). option_map plain_ref o) c.in-Some.is in
    let same : length c.value.result.now ≡ length (plain_ref c.in-Some.parameters).content = ap length c.value.ensures in
    let end = c.before-in-Some.ensures.end in
    let start = c.before-in-Some.ensures.start in
    let back = c.len_of-back.ensures in
    let found = found_in c.args.document.now (entry_der (checked_entry c.args.entry.now)) (plain_ref c.in-Some.parameters).content
    (bits_field (checked_entry c.args.entry.now)) c.args.end c.before-in-Some.result c.requires.stands
    (parameters_end (checked_entry c.args.entry.now) (plain_ref c.in-Some.parameters) is) (omega arith) (omega arith) in
    rw (c.in-Some.is, c.tag.ensures, found.is) refl
