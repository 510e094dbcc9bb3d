use Rattle.std.proofs.Common.{◌≡◌, ◌≤◌, ◌++◌, ℕ, List, length}
use Rattle.der_core.specs.Oid.{AreSubidentifiers, IsOidContent, EndsDigits, oid_text}
use Rattle.der_core.proofs.Texts.{Continues}
use Rattle.der_core.proofs.oid.text.content_of.Given as goal

abbrev pub invariant-loop-rest : goal.invariant-loop-rest
invariant-loop-rest l = record {
  spelt : AreSubidentifiers l.content.items;
  some : 1 ≤ length l.content.items;
  short : length l.content.items ≤ 39;
  text : l.text ≡ oid_text l.content.items ++ l.rest;
  ends : EndsDigits l.rest;
  only : (c : List ℕ) → IsOidContent c → oid_text c ≡ l.text → Continues c l.content.items l.rest;
}

abbrev pub decreases-loop-rest : goal.decreases-loop-rest
decreases-loop-rest l = length l.rest
