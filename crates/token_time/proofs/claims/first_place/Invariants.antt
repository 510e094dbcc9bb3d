use Rattle.std.proofs.Common.{◌≡◌, map, drop}
use Rattle.std.specs.List.{find}
use Rattle.spiffe_token.specs.Members.{member_of}
use Rattle.token_time.specs.Quiet.{is_not_before}
use Rattle.token_time.proofs.claims.first_place.Given as goal

abbrev pub invariant-loop-member : goal.invariant-loop-member
invariant-loop-member l = find is_not_before (map member_of l.members) ≡ find is_not_before (map member_of (drop l.member-index l.members))
