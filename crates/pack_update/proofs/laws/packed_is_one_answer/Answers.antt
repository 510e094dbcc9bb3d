use Rattle.pack_update.proofs.OneAnswer.{one_packed}
use Rattle.pack_update.proofs.laws.packed_is_one_answer.Goals as goal

pub returns : goal.returns
returns c = one_packed
