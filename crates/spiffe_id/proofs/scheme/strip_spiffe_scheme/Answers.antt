use Rattle.std.proofs.Common.{◌≡◌, true, false}
use Rattle.spiffe_id.specs.Scheme.{is_spiffe_scheme}
use Rattle.spiffe_id.proofs.SplitFirst.{after_scheme_found, after_scheme_none, scheme_is}
use Rattle.spiffe_id.proofs.scheme.strip_spiffe_scheme.Goals as goal

pub returns-then-eq_ignore_ascii_case : goal.returns-then-eq_ignore_ascii_case
returns-then-eq_ignore_ascii_case c =
    let is : is_spiffe_scheme c.in-Some.scheme.now ≡ true = scheme_is true c.in-Some.scheme.now c.if-eq_ignore_ascii_case.ensures.test in
    rw (after_scheme_found c.args.id.now c.in-Some.scheme.now c.in-Some.rest.now c.in-Some.ensures.cases, is)

pub returns-else-eq_ignore_ascii_case : goal.returns-else-eq_ignore_ascii_case
returns-else-eq_ignore_ascii_case c =
    let is : is_spiffe_scheme c.in-Some.scheme.now ≡ false = scheme_is false c.in-Some.scheme.now c.if-eq_ignore_ascii_case.ensures.test in
    rw (after_scheme_found c.args.id.now c.in-Some.scheme.now c.in-Some.rest.now c.in-Some.ensures.cases, is)

pub returns-in-None : goal.returns-in-None
returns-in-None c = rw (after_scheme_none c.args.id.now c.in-None.ensures.cases)
