-- The arcs that were written are those of the content.
use Rattle.std.proofs.Common.{sym, ap, ◌∙◌}
use Rattle.std.proofs.Output.{has_written_of_eq}
use Rattle.std.proofs.lemmas.Iterator.Consumers.{YieldsList-from_first, YieldsList-end}
use Rattle.der_core.specs.Arcs.{arcs_left}
use Rattle.der_core.specs.ObjectIdentifier.{oid_content}
use Rattle.der_core.specs.Oid.{arcs_of}
use Rattle.der_core.proofs.Identifiers.{arcs_text}
use Rattle.der_core.proofs.oid.ObjectIdentifierDisplay.fmt.Goals as goal

pub returns-clause-writes : goal.returns-clause-writes
returns-clause-writes g c = λ p _.
    let all = (YieldsList-end (YieldsList-from_first (λ x. x) arcs_left {s = c.into_iter-arc-iterator.result} (arcs_left c.next.new.self)
    (ap arcs_left c.into_iter-arc-iterator.ensures.into_iter_gives)) c.loop-arc.yielded c.loop-arc.arc-iterator c.loop-arc.yielded_by _
    c.next-in-loop-arc.new.self c.in-None.is c.next-in-loop-arc.ensures.steps).0 in
    has_written_of_eq _ _ _ _ _ (arcs_text c.in-Some.first c.loop-arc.yielded (arcs_left c.next.new.self) (arcs_of (oid_content c.args.self.now)) all
    (sym c.arcs-arcs.ensures ∙ c.in-Some.ensures.steps)) (c.loop-arc.invariant p)
