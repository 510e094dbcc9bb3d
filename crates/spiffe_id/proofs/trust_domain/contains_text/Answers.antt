use Rattle.spiffe_id.proofs.SplitFirst.{contains_text_is}
use Rattle.spiffe_id.proofs.trust_domain.contains_text.Goals as goal

pub returns : goal.returns
returns c = contains_text_is c.contains.result c.args.part.now c.args.text.now c.requires c.contains.ensures.cases
