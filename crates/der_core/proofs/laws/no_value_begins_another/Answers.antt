use Rattle.der_core.specs.ValueLaws.{values_unique}
use Rattle.der_core.proofs.laws.no_value_begins_another.Goals as goal

pub returns : goal.returns
returns c = λ b b' x y v w e. values_unique b x b' y v w e
