use Rattle.std.proofs.Common.{◌≡◌, ◌+◌, ◌≤◌, ◌==◌, drop, if◌then◌else◌}
use Rattle.spiffe_token.specs.Strings.{kept_len}
use Rattle.spiffe_token.proofs.blanks.kept_len.Given as goal

abbrev pub invariant-loop-i : goal.invariant-loop-i
invariant-loop-i l = (l.kept ≤ l.i) × (kept_len l.bytes ≡ (if kept_len (drop l.i l.bytes) == 0 then l.kept else l.i + kept_len (drop l.i l.bytes)))
