use Rattle.std.proofs.Common.{◌≡◌, ◌++◌, map, drop}
use Rattle.spiffe_token.specs.Members.{member_of}
use Rattle.token_time.specs.Quiet.{quiet_from}
use Rattle.token_time.proofs.claims.without_times.Given as goal

abbrev pub invariant-loop-member : goal.invariant-loop-member
invariant-loop-member l = l.kept.items ++ quiet_from l.text l.from (map member_of (drop l.member-index l.members))
    ≡ quiet_from l.text 0 (map member_of l.members)
