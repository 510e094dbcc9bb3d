use Rattle.std.proofs.Common.{subst, arith}
use Rattle.identity_source.specs.History.{StartsWith}
use Rattle.identity_source.specs.NamedList.{NamedList}
use Rattle.identity_source.proofs.Covers.{covers_mark, tells}
use Rattle.identity_source.proofs.published.Mark.covers.Goals as goal

pub returns : goal.returns
returns c =
    let m = c.self.invariant in let o = c.other.invariant in
    tells c.other.inside.length c.self.inside.length _ _
    (λ le. subst (λ (p : NamedList × NamedList). StartsWith p.0.list p.1.list) (λ i. (c.self.view_is i, c.other.view_is i))
    (covers_mark c.self.inside.done.log c.other.inside.done.log m.0 o.0 c.self.inside.length c.other.inside.length m.1 o.1
    c.compare_tokens.ensures.second le))
    (λ lt. subst (λ (p : NamedList × NamedList). StartsWith p.1.list p.0.list) (λ i. (c.self.view_is i, c.other.view_is i))
    (covers_mark c.other.inside.done.log c.self.inside.done.log o.0 m.0 c.other.inside.length c.self.inside.length o.1 m.1
    c.compare_tokens.ensures.first (omega (arith, lt))))
