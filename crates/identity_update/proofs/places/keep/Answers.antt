use Rattle.std.proofs.Common.{◌<◌, ◌^◌, length, sym, subst}
use Rattle.spki.specs.PlainPublicKey.{public_key_der}
use Rattle.identity_update.specs.Checked.{checked_entry}
use Rattle.identity_update.specs.Parts.{Entry}
use Rattle.identity_update.proofs.PlacesLaws.{public_key_fits}
use Rattle.identity_update.proofs.places.keep.Goals as goal

pub returns-clause-kept : goal.returns-clause-kept
returns-clause-kept c = record {
  placed = c.place.ensures.placed;
  public_key = subst (λ (e : Entry). length (public_key_der e.public_key) < 2 ^ 32) (sym c.place.ensures.value)
      (public_key_fits c.args.document.now (checked_entry c.args.entry) c.args.end c.requires.stands c.requires.small);
}
