use Rattle.std.proofs.Common.{ℕ, ◌+◌, List, take, ap, sym, ◌∙◌, subst}
use Rattle.base64ct.specs.Lines.{after_ending, starts_with_ending}
use Rattle.base64ct.specs.Walk.{IsCut}
use Rattle.base64ct.proofs.ReaderLemmas.{cut_bad, cut_more}
use Rattle.base64ct.proofs.lines.cut_lines.Goals as goal

pub returns-in_default-clause-none : goal.returns-in_default-clause-none
returns-in_default-clause-none c =
    cut_bad c.args.width c.loop-cut.cut.count c.args.text.now c.loop-cut.cut.line.now c.loop-cut.cut.rest.now c.loop-cut.invariant c.loop-cut-test.true
    (ap starts_with_ending (sym c.split_at.ensures.back) ∙ c.in_default.ensures.none)

pub loop-cut-preserved : goal.loop-cut-preserved
loop-cut-preserved c =
    let behind = c.in-Some.ensures.some in
    let more = cut_more c.args.width c.loop-cut.cut.count c.args.text.now c.loop-cut.cut.line.now c.loop-cut.cut.rest.now c.loop-cut.invariant
    c.loop-cut-test.true
    (ap starts_with_ending (sym c.split_at.ensures.back) ∙ behind.0) in
    subst (λ (us : List ℕ). IsCut c.args.width (c.loop-cut.cut.count + c.args.width) c.args.text.now us c.in-Some.rest.now) (sym c.split_at.ensures.front)
    (subst (λ (us : List ℕ). IsCut c.args.width (c.loop-cut.cut.count + c.args.width) c.args.text.now (take c.args.width c.loop-cut.cut.rest.now) us)
    (sym (behind.1 ∙ ap after_ending c.split_at.ensures.back)) more)
