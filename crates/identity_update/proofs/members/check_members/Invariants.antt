use Rattle.std.proofs.Common.{◌≡◌, ℕ, List, drop, map}
use Rattle.identity_update.specs.BundleMap.{HasTheDomains}
use Rattle.identity_update.specs.Kept.{kept_entry}
use Rattle.identity_update.specs.Parts.{Bundle}
use Rattle.identity_update.specs.Verdict.{members_check}
use Rattle.identity_update.proofs.members.check_members.Given as goal

abbrev pub invariant-loop-number : goal.invariant-loop-number
invariant-loop-number l = (document : List ℕ) (bundles : List Bundle) → HasTheDomains l.set bundles
    → members_check l.number bundles (map (kept_entry document) (drop l.number l.entries)) ≡ members_check 0 bundles (map (kept_entry document) l.fn.entries)
