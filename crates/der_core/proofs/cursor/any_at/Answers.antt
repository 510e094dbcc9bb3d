-- What stands at the front, as the reading function of lists says.
use Rattle.std.proofs.Common.{arith}
use Rattle.der_core.specs.LengthLaws.{IsBytes}
use Rattle.der_core.specs.ValueLaws.{found_of, fits_of, none_of}
use Rattle.der_core.proofs.cursor.any_at.Goals as goal

pub returns-clause-found : goal.returns-clause-found
unfolding IsBytes
returns-clause-found c =
    let bytes : IsBytes c.args.bytes.now = λ i. omega (arith, c.type_inv.bytes i) in
    found_of _ _ _ _ _ bytes c.value_at.ensures

pub returns-clause-fits : goal.returns-clause-fits
unfolding IsBytes
returns-clause-fits c =
    let bytes : IsBytes c.args.bytes.now = λ i. omega (arith, c.type_inv.bytes i) in
    fits_of _ _ _ _ _ bytes c.value_at.ensures

pub returns-clause-none : goal.returns-clause-none
returns-clause-none c = none_of _ _ _ _ _ c.value_at.ensures
