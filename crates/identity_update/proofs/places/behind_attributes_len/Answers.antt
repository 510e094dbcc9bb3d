use Rattle.std.proofs.Common.{◌≡◌, ℕ, ◌<◌, ◌^◌, List, length, sym, ap, subst, length-append, arith}
use Rattle.identity_update.specs.Checked.{checked_entry}
use Rattle.spki.proofs.Owned.{public_key_encoding, public_key_seen}
use Rattle.spki.specs.PlainPublicKey.{public_key_der}
use Rattle.identity_update.specs.Places.{held_field}
use Rattle.identity_update.proofs.PlacesLaws.{behind_fits, entry_der, public_end, tail_fits}
use Rattle.identity_update.proofs.places.behind_attributes_len.Goals as goal

pub held_len-requires : goal.held_len-requires
held_len-requires c = let fits = behind_fits c.args.document.now (checked_entry c.args.entry.now) c.args.end c.requires.stands c.requires.small in omega arith

pub len_of-requires : goal.len_of-requires
len_of-requires c =
    subst (λ (b : List ℕ). length b < 2 ^ 32) (sym (public_key_seen c.args.entry.now.public_key))
    (tail_fits c.args.document.now (entry_der (checked_entry c.args.entry.now)) (public_key_der (checked_entry c.args.entry.now).public_key) c.args.end
    c.requires.stands (public_end (checked_entry c.args.entry.now)) c.requires.small)

pub overflow_add-result : goal.overflow_add-result
overflow_add-result c =
    let fits = behind_fits c.args.document.now (checked_entry c.args.entry.now) c.args.end c.requires.stands c.requires.small in
    let same : length (public_key_encoding c.args.entry.now.public_key) ≡ length (public_key_der (checked_entry c.args.entry.now).public_key) =
    ap length (public_key_seen c.args.entry.now.public_key) in
    omega (arith, fits, same, c.held_len.ensures, c.len_of.ensures)

pub returns : goal.returns
returns c =
    let e = checked_entry c.args.entry.now in
    let sum = length-append (held_field e.private_key.public_key) (public_key_der e.public_key) in
    let same : length (public_key_encoding c.args.entry.now.public_key) ≡ length (public_key_der (checked_entry c.args.entry.now).public_key) =
    ap length (public_key_seen c.args.entry.now.public_key) in
    omega (arith, sum, same, c.held_len.ensures, c.len_of.ensures)
