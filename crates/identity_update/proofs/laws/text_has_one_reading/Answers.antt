use Rattle.identity_update.proofs.ReadingLaws.{never_both, one_refusal, one_update}
use Rattle.identity_update.proofs.laws.text_has_one_reading.Goals as goal

pub returns-clause-update : goal.returns-clause-update
returns-clause-update c = λ width text u v x y. one_update width text u v c.text_has_one_value.ensures x y

pub returns-clause-refusal : goal.returns-clause-refusal
returns-clause-refusal c = λ width text e f x y some some'. one_refusal width text e f c.text_has_one_value.ensures x y some some'

pub returns-clause-never_both : goal.returns-clause-never_both
returns-clause-never_both c = λ width text u e x r. never_both width text u e c.text_has_one_value.ensures x r
