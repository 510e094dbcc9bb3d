use Rattle.std.proofs.Common.{◌≡◌, map, drop, string_bytes}
use Rattle.identity_verify.specs.Verdict.{has_audience}
use Rattle.identity_verify.proofs.verify.has_audience.Given as goal

abbrev pub invariant-loop-audience : goal.invariant-loop-audience
invariant-loop-audience l =
    has_audience (map string_bytes l.expected) (map string_bytes l.audiences)
    ≡ has_audience (map string_bytes l.expected) (map string_bytes (drop l.audience-index l.audiences))
