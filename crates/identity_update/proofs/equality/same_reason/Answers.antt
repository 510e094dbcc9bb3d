use Rattle.std.proofs.Common.{nat_eq, ◌∙◌}
use Rattle.std.specs.Cmp.Lexicographic.{pointwise}
use Rattle.spki.specs.Same.{options_seen}
use Rattle.identity_update.proofs.equality.same_reason.Goals as goal

pub returns : goal.returns
returns c = c.eq.ensures ∙ options_seen (pointwise nat_eq) (λ text. text.now) c.args.a c.args.b
