use Rattle.broker_header.proofs.StoredEntries.{stored_found, stored_none}
use Rattle.broker_header.proofs.metadata.Metadata.get.Goals as goal

pub returns-in-Some : goal.returns-in-Some
returns-in-Some c = stored_found c.args.key.now c.args.self.now c.self.inside.entries.entries c.in-Some.value c.as_str.result.now c.self.view_is
    c.in-Some.ensures.value c.as_str.ensures.value

pub returns-in-None : goal.returns-in-None
returns-in-None c = stored_none c.args.key.now c.args.self.now c.self.inside.entries.entries c.self.view_is c.in-None.ensures.value
