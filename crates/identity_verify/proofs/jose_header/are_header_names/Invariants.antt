use Rattle.std.proofs.Common.{◌≡◌, map, drop}
use Rattle.std.specs.List.{list_all}
use Rattle.spiffe_token.specs.Members.{member_of}
use Rattle.identity_verify.specs.JoseHeader.{is_header_name}
use Rattle.identity_verify.proofs.jose_header.are_header_names.Given as goal

abbrev pub invariant-loop-member : goal.invariant-loop-member
invariant-loop-member l = list_all is_header_name (map member_of l.members) ≡ list_all is_header_name (map member_of (drop l.member-index l.members))
