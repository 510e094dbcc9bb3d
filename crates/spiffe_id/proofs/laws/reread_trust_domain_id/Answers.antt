use Rattle.std.proofs.Common.{◌≡◌, Ok}
use Rattle.spiffe_id.specs.TrustDomain.{trust_domain_of}
use Rattle.spiffe_id.proofs.Reading.{trust_domain_of-id_string}
use Rattle.spiffe_id.proofs.Rereading.{reread_value, reread_refusal}
use Rattle.spiffe_id.proofs.laws.reread_trust_domain_id.Goals as goal

pub returns-clause-same : goal.returns-clause-same
returns-clause-same c =
    let reads : trust_domain_of c.as_str-2.result.now ≡ Ok c.args.domain.now =
    rw (c.as_str-2.ensures.value, c.in_ok-id.ensures.ok) (trust_domain_of-id_string c.args.domain.now c.as_str.ensures.valid) in
    reread_value _ _ reads c.new.result c.new.ensures.ok

pub returns-clause-memory : goal.returns-clause-memory
returns-clause-memory c =
    let reads : trust_domain_of c.as_str-2.result.now ≡ Ok c.args.domain.now =
    rw (c.as_str-2.ensures.value, c.in_ok-id.ensures.ok) (trust_domain_of-id_string c.args.domain.now c.as_str.ensures.valid) in
    reread_refusal _ _ reads c.new.result c.new.ensures.err
