use Rattle.std.proofs.Common.{ap, sym, ◌∙◌}
use Rattle.base64_text.specs.Counts.{loose_count}
use Rattle.base64_text.proofs.CountLemmas.{count_unclean}
use Rattle.base64_text.proofs.count_laws.unclean_texts_take_one_count.Goals as goal

pub returns : goal.returns
returns g c = λ t u x y same.
    count_unclean g.E.Alphabet.form.table g.E.Alphabet.form.padded t x ∙ ap loose_count same
    ∙ sym (count_unclean g.E.Alphabet.form.table g.E.Alphabet.form.padded u y)
