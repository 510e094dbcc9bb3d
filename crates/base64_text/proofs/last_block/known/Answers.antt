use Rattle.std.proofs.lemmas.Grind.{get_or_default_zero}
use Rattle.base64_text.proofs.last_block.known.Goals as goal

pub returns : goal.returns
returns c k d lt = rw (get_or_default_zero c.args.bytes.now k d lt) ((c.type_inv.bytes k).fits)
