use Rattle.der_core.specs.ObjectIdentifier.{oid_content}
use Rattle.der_core.proofs.Texts.{same_content}
use Rattle.der_core.proofs.laws.equal_texts_are_equal_identifiers.Goals as goal

pub returns : goal.returns
returns c = λ a b e. same_content (oid_content a) (oid_content b) a.holds.content b.holds.content e
