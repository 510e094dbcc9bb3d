use Rattle.update_document.proofs.OneLaws.{update_one}
use Rattle.update_document.proofs.laws.documents_have_one_update.Goals as goal

pub returns : goal.returns
returns c = λ bytes one other r s. update_one.one bytes one other r s
