use Rattle.std.proofs.Common.{◌≡◌, ◌≤◌, length}
use Rattle.spiffe_token.specs.Strings.{skip_blanks}
use Rattle.spiffe_token.proofs.blanks.skip_blanks.Given as goal

abbrev pub invariant-blanks : goal.invariant-blanks
invariant-blanks l = (skip_blanks l.fn.bytes ≡ skip_blanks l.rest) × (length l.rest ≤ length l.fn.bytes)

abbrev pub decreases-blanks : goal.decreases-blanks
decreases-blanks l = length l.rest
