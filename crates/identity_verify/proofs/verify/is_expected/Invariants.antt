use Rattle.std.proofs.Common.{◌≡◌, map, drop, string_bytes}
use Rattle.identity_verify.specs.Verdict.{is_expected}
use Rattle.identity_verify.proofs.verify.is_expected.Given as goal

abbrev pub invariant-loop-e : goal.invariant-loop-e
invariant-loop-e l = is_expected (map string_bytes l.expected) l.audience ≡ is_expected (map string_bytes (drop l.e-index l.expected)) l.audience
