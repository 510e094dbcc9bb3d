use Rattle.std.proofs.Common.{◌≡◌, ◌<◌, ◌==◌, ℕ, true, false, length, arith}
use Rattle.std.proofs.lemmas.Bool.Decides.{nat_tests}
use Rattle.spiffe_token.proofs.NameSteps.{went_on, failed, done}
use Rattle.spiffe_token.proofs.member_name.resolve.Goals as goal

none_left : (n : ℕ) → true ≡ (n == 0) → n ≡ 0
none_left n e = grind (arith, nat_tests)

some_left : (n : ℕ) → false ≡ (n == 0) → 0 < n
some_left n e = grind (arith, nat_tests)

pub returns : goal.returns
returns c = let i = c.units.invariant in done i.0 c.units.rest.now c.units.out.items _ i.1 i.2 (none_left (length c.units.rest.now) c.units-test.ensures)

pub units-preserved : goal.units-preserved
units-preserved c =
    let i = c.units.invariant in
    let u = rw c.in-Some.is at c.in_ok-next.ensures in
    went_on i.0 c.units.rest.now c.units.out.items _ i.1 i.2 u.1.0 c.in-Some.next.now c.push_unit.new.out.items u.1.1 u.0 u.1.2

pub returns-in-None : goal.returns-in-None
returns-in-None c =
    let i = c.units.invariant in
    failed i.0 c.units.rest.now c.units.out.items _ i.1 i.2 (some_left (length c.units.rest.now) c.units-test.ensures) (rw c.in-None.is at c.in_ok-next.ensures)
