use Rattle.std.proofs.Common.{ap, sym, ◌∙◌, take}
use Rattle.base64_alphabet.specs.Lanes.{bytes_of_digits}
use Rattle.base64_alphabet.proofs.GroupedLemmas.{is_low, is_high}
use Rattle.base64_alphabet.proofs.lanes.grouped.Goals.{then-split_3bytes-eq1, else-split_3bytes-eq1}
use Rattle.base64_alphabet.proofs.lanes.grouped.Goals as goal

pub returns-clause-bytes : goal.returns-clause-bytes
returns-clause-bytes g c h = elim c.if-split_3bytes-eq1.branch [
  | then-split_3bytes-eq1 w ↦ ap (take 24) w.result-is ∙ w.grouped_low.ensures.bytes h
      ∙ ap (λ e. bytes_of_digits e c.args.digits) (sym (is_low g.E.Alphabet.form.end c.split_3bytes.result c.split_3bytes.ensures w.if-split_3bytes-eq1.true))
  | else-split_3bytes-eq1 w ↦ ap (take 24) w.result-is ∙ w.grouped_high.ensures.bytes h
      ∙ ap (λ e. bytes_of_digits e c.args.digits) (sym (is_high g.E.Alphabet.form.end c.split_3bytes.result c.split_3bytes.ensures w.if-split_3bytes-eq1.false))
]
