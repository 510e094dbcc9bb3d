-- The first subidentifier holds two arcs.
use Rattle.std.proofs.Common.{ℕ, List, sym, ap}
use Rattle.der_core.specs.Oid.{with_two_arcs}
use Rattle.der_core.proofs.Identifiers.{are_more, numbers_of}
use Rattle.der_core.proofs.oid.arcs.Arcs.of.Goals as goal

pub invariant_of-result : goal.invariant_of-result
invariant_of-result c =
    record { spelt = (are_more c.in-Some.number c.args.content.now c.in-Some.rest.now c.in-Some.ensures.small c.in-Some.ensures.found).0 c.requires.numbers }

pub returns : goal.returns
returns c =
    let numbers = numbers_of c.in-Some.number c.args.content.now c.in-Some.rest.now c.in-Some.ensures.small c.in-Some.ensures.found in
    rw c.min-first.ensures (sym (ap (λ (ns : List ℕ). with_two_arcs ns) numbers))
