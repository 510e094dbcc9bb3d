use Rattle.spiffe_id.proofs.Reading.{id_of-id_text}
use Rattle.identity_update.proofs.entry_parts.borrow_entry.Goals as goal

pub returns-in_err-copy-clause-id : goal.returns-in_err-copy-clause-id
returns-in_err-copy-clause-id c = id_of-id_text c.args.entry.now.id c.trust_domain_name.ensures.valid c.path.ensures.valid

pub returns-clause-id : goal.returns-clause-id
returns-clause-id c = id_of-id_text c.args.entry.now.id c.trust_domain_name.ensures.valid c.path.ensures.valid
