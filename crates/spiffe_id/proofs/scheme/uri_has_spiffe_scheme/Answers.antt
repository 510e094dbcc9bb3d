use Rattle.std.proofs.Common.{sym}
use Rattle.spiffe_id.proofs.SplitFirst.{has_scheme_found, has_scheme_none, scheme_is}
use Rattle.spiffe_id.proofs.scheme.uri_has_spiffe_scheme.Goals as goal

pub returns-in-Some : goal.returns-in-Some
returns-in-Some c =
    rw (has_scheme_found c.args.uri.now c.in-Some.scheme.now _ c.in-Some.ensures.cases)
    (sym (scheme_is c.eq_ignore_ascii_case.result c.in-Some.scheme.now c.eq_ignore_ascii_case.ensures.test))

pub returns-in-None : goal.returns-in-None
returns-in-None c = rw (has_scheme_none c.args.uri.now c.in-None.ensures.cases)
