use Rattle.std.proofs.Common.{ℕ, ◌<◌, List, length, arith, rules, ap, sym, ◌∙◌, subst}
use Rattle.base64_text.specs.LastBlock.{HasCanonicalEnd}
use Rattle.base64_text.specs.declared.errors.Error.{Error}
use Rattle.base64ct.specs.Items.{items, IsNewError}
use Rattle.base64ct.specs.Lines.{trimmed}
use Rattle.base64ct.proofs.BeginLemmas.{err_then, ok_then, one_line}
use Rattle.base64ct.proofs.decoder.Decoder.new.Goals as goal

pub returns-clause-items : goal.returns-clause-items
returns-clause-items g c =
    let flat = one_line c.max.result c.trim_break-text.result.now (omega arith) in
    ok_then _ _ c.start.result c.start.ensures.items (λ d e. e
    ∙ ap (λ (us : List ℕ). items g.E.Alphabet.form us) (flat.0 ∙ c.trim_break-text.ensures))

pub returns-clause-accepted : goal.returns-clause-accepted
returns-clause-accepted g c =
    let flat = one_line c.max.result c.trim_break-text.result.now (omega arith) in
    ok_then _ _ c.start.result c.start.ensures.canonical (λ d h. subst
    (λ (us : List ℕ). HasCanonicalEnd g.E.Alphabet.form us) (flat.0 ∙ c.trim_break-text.ensures) h)

pub returns-clause-err : goal.returns-clause-err
returns-clause-err g c =
    let flat = one_line c.max.result c.trim_break-text.result.now (omega arith) in
    let some : 0 < length c.trim_break-text.result.now = search rules in
    let low : 0 < length (trimmed c.args.input.now) = subst (λ (us : List ℕ). 0 < length us) c.trim_break-text.ensures some in
    err_then _ _ c.start.result c.start.ensures.err (λ e h. subst
    (λ (x : Error). IsNewError g.E.Alphabet.form (trimmed c.args.input.now) x) (sym h.0) (
      low,
      λ canonical. h.1 flat.1 (subst (λ (us : List ℕ). HasCanonicalEnd g.E.Alphabet.form us)
          (sym (flat.0 ∙ c.trim_break-text.ensures)) canonical),
    ))
