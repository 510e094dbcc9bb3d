use Rattle.pack_program.proofs.OneOrder.{one_order}
use Rattle.pack_program.proofs.laws.words_are_one_order.Goals as goal

pub returns : goal.returns
returns c = one_order
