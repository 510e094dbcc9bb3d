use Rattle.std.proofs.Common.{ap, sym, ◌∙◌, take}
use Rattle.std.specs.Simd.Lanes.{all_below}
use Rattle.base64_alphabet.specs.Lanes.{digits_of_bytes}
use Rattle.base64_alphabet.proofs.DigitsLemmas.{bytes_taken, digits_below}
use Rattle.base64_alphabet.proofs.GroupedLemmas.{is_low, is_high}
use Rattle.base64_alphabet.proofs.encode_lanes.digits_32.Goals.{then-split_3bytes-eq1, else-split_3bytes-eq1}
use Rattle.base64_alphabet.proofs.encode_lanes.digits_32.Goals as goal

pub returns-clause-digits : goal.returns-clause-digits
returns-clause-digits g c = elim c.if-split_3bytes-eq1.branch [
  | then-split_3bytes-eq1 w ↦ w.result-is ∙ w.digits_low.ensures
      ∙ ap (λ e. digits_of_bytes e (take 24 c.args.bytes)) (sym
      (is_low g.E.Alphabet.form.end c.split_3bytes.result c.split_3bytes.ensures w.if-split_3bytes-eq1.true))
  | else-split_3bytes-eq1 w ↦ w.result-is ∙ w.digits_high.ensures
      ∙ ap (λ e. digits_of_bytes e (take 24 c.args.bytes)) (sym
      (is_high g.E.Alphabet.form.end c.split_3bytes.result c.split_3bytes.ensures w.if-split_3bytes-eq1.false))
]

pub returns-clause-below : goal.returns-clause-below
returns-clause-below g c = ap (all_below 64) (returns-clause-digits g c)
    ∙ digits_below g.E.Alphabet.form.end (take 24 c.args.bytes) (bytes_taken 24 c.args.bytes c.requires.bytes)
