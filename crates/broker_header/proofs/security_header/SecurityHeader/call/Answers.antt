use Rattle.std.proofs.Common.{refl}
use Rattle.broker_header.proofs.security_header.SecurityHeader.call.Goals as goal
use Rattle.broker_header.proofs.security_header.SecurityHeader.call.Goals.{in-Ok, in-Err}

pub returns-clause-ends : goal.returns-clause-ends
returns-clause-ends g c = (
  c.run_first.result,
  c.run_first.new.metadata,
  (rw (← c.self.view_is) c.run_first.ensures),
  elim c.match-run_first.branch [ in-Ok w ↦ rw (w.in-Ok.is, w.result-is) w.set_header.ensures | in-Err w ↦ rw (w.in-Err.is, w.result-is) refl ],
)
