use Rattle.base64ct.proofs.LinesLemmas.{Lines-unique}
use Rattle.base64ct.proofs.line_laws.lines_have_one_join.Goals as goal

pub returns : goal.returns
returns c = λ width text t u low p q. Lines-unique width text t u low p q
