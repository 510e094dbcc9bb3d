use Rattle.pkcs8.proofs.Equality.{four_true}
use Rattle.pkcs8.proofs.laws.equal_keys_are_equal_in_each_part.Goals as goal

pub returns : goal.returns
returns g c = λ a b. four_true _ _ _ _
