use Rattle.std.proofs.Common.{List, ℕ, [], ◌++◌, ap}
use Rattle.der_core.specs.ValueLaws.{same_value}
use Rattle.der_core.proofs.laws.encoding_has_one_value.Goals as goal

pub returns : goal.returns
returns c = λ t u a b t' u' fits fits' e.
    let same = same_value t a [] u b [] t' fits u' fits' (ap (λ (s : List ℕ). s ++ []) e) in
    (same.tags, same.contents)
