use Rattle.der_small.proofs.Compared.{bytes_decide}
use Rattle.der_small.proofs.laws.texts_are_compared_by_bytes.Goals as goal

pub returns-clause-equal : goal.returns-clause-equal
returns-clause-equal c = λ a b. bytes_decide 12 a.text.now b.text.now a.small b.small
