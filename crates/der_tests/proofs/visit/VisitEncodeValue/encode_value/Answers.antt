-- Field after field.
use Rattle.std.proofs.Common.{rules}
use Rattle.der_core.specs.SequenceLaws.{rest_fits}
use Rattle.der_core.specs.Writing.{wrote_then, wrote_refused}
use Rattle.der_tests.proofs.visit.VisitEncodeValue.encode_value.Goals as goal

pub returns-in_err-encode-clause-wrote : goal.returns-in_err-encode-clause-wrote
returns-in_err-encode-clause-wrote g c = wrote_refused _ c.in_err-encode.ensures.wrote (search rules) c.in_ok-value_len.ensures.1

pub returns-in_err-encode-2-clause-wrote : goal.returns-in_err-encode-2-clause-wrote
returns-in_err-encode-2-clause-wrote g c =
    wrote_then c.in_ok-encode.ensures.wrote c.encode.ensures.count
    (wrote_refused _ c.in_err-encode-2.ensures.wrote (search rules) (rest_fits _ _ c.in_ok-value_len.ensures.1)) c.in_ok-value_len.ensures.1

pub returns-clause-wrote : goal.returns-clause-wrote
returns-clause-wrote g c =
    wrote_then c.in_ok-encode.ensures.wrote c.encode.ensures.count
    (wrote_then c.in_ok-encode-2.ensures.wrote c.encode-2.ensures.count c.encode-3.ensures.wrote (rest_fits _ _ c.in_ok-value_len.ensures.1))
    c.in_ok-value_len.ensures.1
