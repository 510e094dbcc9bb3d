use Rattle.std.proofs.Common.{sym, ap, ◌∙◌}
use Rattle.left_right.specs.Sides.{view}
use Rattle.identity_source.proofs.Panes.{heard, some_mapped}
use Rattle.identity_source.proofs.pane.PaneWindow.learn.Goals as goal

pub invariant_of-self-then-is_some-2 : goal.invariant_of-self-then-is_some-2
invariant_of-self-then-is_some-2 c =
    let p = c.self.inside in let parts = c.into_parts-mark in
    heard p.seated.name p.memo.log c.after_told.result.log p.told c.take-old.result parts.result.0 c.args.receipt c.later.result _ c.self.invariant
    c.take-old.ensures.value c.after_told.ensures parts.ensures.mark c.later.ensures
    (c.requires ∙ sym (ap (λ s. s.name) c.self.view_is)) parts.ensures.listed
    (some_mapped (λ r. view r.place) p.reader (sym c.is_some.ensures ∙ c.if-is_some.true))
