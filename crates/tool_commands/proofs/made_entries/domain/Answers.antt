use Rattle.tool_commands.proofs.Made.{domain_is}
use Rattle.tool_commands.proofs.made_entries.domain.Goals as goal

pub returns-in-Ok : goal.returns-in-Ok
returns-in-Ok c = domain_is c.in-Ok.domain c.in-Ok.ensures.ok
