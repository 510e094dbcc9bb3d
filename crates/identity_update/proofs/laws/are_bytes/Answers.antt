use Rattle.std.proofs.lemmas.Grind.{get_or_default_zero}
use Rattle.identity_update.proofs.laws.are_bytes.Goals as goal

pub returns : goal.returns
returns c k d lt = rw (get_or_default_zero c.args.bytes.now k d lt) ((c.type_inv.bytes k).fits)
