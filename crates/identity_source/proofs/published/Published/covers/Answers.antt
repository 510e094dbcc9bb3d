use Rattle.std.proofs.Common.{subst}
use Rattle.identity_source.specs.History.{StartsWith}
use Rattle.identity_source.specs.NamedList.{NamedList}
use Rattle.identity_source.proofs.Covers.{covers_published, tells}
use Rattle.identity_source.proofs.published.Published.covers.Goals as goal

pub returns : goal.returns
returns c =
    let m = c.mark.invariant in
    tells c.mark.inside.length c.self.inside.length _ _ (λ le. subst (λ (p : NamedList × NamedList). StartsWith p.0.list p.1.list)
    (λ i. (c.self.view_is i, c.mark.view_is i))
    (covers_published c.self.inside.tried.log c.mark.inside.done.log c.self.inside.snapshot m.0 c.self.inside.length c.mark.inside.length c.self.invariant
    m.1 c.compare_tokens.ensures.first c.compare_tokens.ensures.second le)) (λ lt. tt)
