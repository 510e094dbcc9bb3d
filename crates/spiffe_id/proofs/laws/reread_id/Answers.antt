use Rattle.std.proofs.Common.{◌≡◌, Ok}
use Rattle.spiffe_id.specs.SpiffeId.{id_of}
use Rattle.spiffe_id.proofs.Reading.{id_of-id_text}
use Rattle.spiffe_id.proofs.Rereading.{reread_value, reread_refusal}
use Rattle.spiffe_id.proofs.laws.reread_id.Goals as goal

pub returns-clause-same : goal.returns-clause-same
returns-clause-same c =
    let reads : id_of c.as_str.result.now ≡ Ok c.args.id.now =
    rw (c.as_str.ensures.value, c.in_ok-text.ensures.ok) (id_of-id_text c.args.id.now c.trust_domain_name.ensures.valid c.path.ensures.valid) in
    reread_value _ _ reads c.new.result c.new.ensures.ok

pub returns-clause-memory : goal.returns-clause-memory
returns-clause-memory c =
    let reads : id_of c.as_str.result.now ≡ Ok c.args.id.now =
    rw (c.as_str.ensures.value, c.in_ok-text.ensures.ok) (id_of-id_text c.args.id.now c.trust_domain_name.ensures.valid c.path.ensures.valid) in
    reread_refusal _ _ reads c.new.result c.new.ensures.err
