use Rattle.spiffe_id.proofs.Reading.{trust_domain_of-name}
use Rattle.identity_update.proofs.bundle_rules.own_key_set.Goals as goal

pub returns-in_err-domain-clause-domain : goal.returns-in_err-domain-clause-domain
returns-in_err-domain-clause-domain c = trust_domain_of-name c.args.bundle.now.trust_domain c.as_str.ensures.valid

pub returns-clause-domain : goal.returns-clause-domain
returns-clause-domain c = trust_domain_of-name c.args.bundle.now.trust_domain c.as_str.ensures.valid
