use Rattle.std.proofs.Common.{◌≡◌, ◌≤◌, ℕ, map, length, option_map, ◌++◌}
use Rattle.spiffe_token.specs.RawMembers.{members_from}
use Rattle.spiffe_token.specs.RawMembers.{raw_of}
use Rattle.spiffe_token.proofs.raw_members.members_from.Given as goal

abbrev pub invariant-members : goal.invariant-members
invariant-members l =
    (n : ℕ) × (length l.rest ≤ n) × (length l.rest ≤ l.total)
    × (members_from (length l.fn.first) l.total l.fn.first ≡ option_map (λ ms. map raw_of l.found.items ++ ms) (members_from n l.total l.rest))

abbrev pub decreases-members : goal.decreases-members
decreases-members l = length l.rest
