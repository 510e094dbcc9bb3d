use Rattle.std.proofs.Common.{ap, subst}
use mathlib.Core.List.{IsPrefix}
use Rattle.round_log.proofs.Prefixes.{prefix_shorter}
use Rattle.round_log.proofs.rule.compare_tokens.Goals as goal

pub returns-clause-first : goal.returns-clause-first
returns-clause-first g c le =
    let all = c.learn.new.self.log in
    prefix_shorter _ _ all (subst (λ l. IsPrefix l all) (ap (λ s. s.log) c.again-both.ensures) c.learn.ensures.2) c.learn.ensures.3 le

pub returns-clause-second : goal.returns-clause-second
returns-clause-second g c le =
    let all = c.learn.new.self.log in
    prefix_shorter _ _ all c.learn.ensures.3 (subst (λ l. IsPrefix l all) (ap (λ s. s.log) c.again-both.ensures) c.learn.ensures.2) le
