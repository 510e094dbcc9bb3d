use Rattle.spiffe_id.proofs.LowerCase.{IsTrustDomain-lower}
use Rattle.spiffe_id.proofs.trust_domain.TrustDomain.lowered.Goals as goal

pub invariant_of-result : goal.invariant_of-result
invariant_of-result c = rw c.in_ok-name.ensures (IsTrustDomain-lower c.args.written.now c.requires)
