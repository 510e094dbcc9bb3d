use Rattle.std.proofs.Common.{rules}
use Rattle.der_core.specs.ValueLaws.{values_unique}
use Rattle.der_core.proofs.laws.no_encoding_begins_another.Goals as goal

pub returns : goal.returns
returns g c = λ b b' x y v w r s e.
    let law = (g.met.T.Decode c.lifetimes (search rules)).one_value in
    values_unique b x b' y (law b v r) (law b' w s) e
