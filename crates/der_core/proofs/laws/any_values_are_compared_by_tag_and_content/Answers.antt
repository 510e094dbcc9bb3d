use Rattle.std.proofs.Common.{refl}
use Rattle.der_core.proofs.Compared.{encodings_decide, pair_partial}
use Rattle.der_core.proofs.laws.any_values_are_compared_by_tag_and_content.Goals as goal

pub returns-clause-equal : goal.returns-clause-equal
returns-clause-equal c = λ a b. encodings_decide a.tag.byte b.tag.byte a.value.items b.value.items a.small b.small

pub returns-clause-order : goal.returns-clause-order
returns-clause-order c = λ a b. (refl, pair_partial a.tag.byte b.tag.byte a.value.items b.value.items)
