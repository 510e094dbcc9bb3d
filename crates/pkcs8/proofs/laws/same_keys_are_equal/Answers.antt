use Rattle.pkcs8.specs.Same.{private_keys_decide}
use Rattle.pkcs8.proofs.laws.same_keys_are_equal.Goals as goal

pub returns : goal.returns
returns c = private_keys_decide
