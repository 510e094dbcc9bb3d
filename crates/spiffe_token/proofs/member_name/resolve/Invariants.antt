use Rattle.std.proofs.Common.{◌≡◌, ◌≤◌, ◌++◌, ℕ, length, option_map}
use Rattle.spiffe_token.specs.MemberNames.{resolve}
use Rattle.spiffe_token.proofs.member_name.resolve.Given as goal

abbrev pub invariant-units : goal.invariant-units
invariant-units l =
    (n : ℕ) × (length l.rest ≤ n) × (resolve (length l.fn.content) l.fn.content ≡ option_map (λ r. l.out.items ++ r) (resolve n l.rest))

abbrev pub decreases-units : goal.decreases-units
decreases-units l = length l.rest
