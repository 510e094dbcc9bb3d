use Rattle.std.proofs.Common.{◌≡◌, ◌++◌, map, drop, option_map}
use Rattle.spiffe_token.specs.RawMembers.{raw_of}
use Rattle.spiffe_token.specs.Members.{member_of}
use Rattle.spiffe_token.specs.Members.{all_named}
use Rattle.spiffe_token.proofs.members.all_named.Given as goal

abbrev pub invariant-loop-raw : goal.invariant-loop-raw
invariant-loop-raw l = all_named (map raw_of l.raws) ≡ option_map (λ ms. map member_of l.members.items ++ ms) (all_named (map raw_of (drop l.raw-index l.raws)))
