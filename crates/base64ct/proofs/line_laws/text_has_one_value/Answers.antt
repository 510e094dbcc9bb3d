use Rattle.base64_alphabet.proofs.TableLemmas.{facts}
use Rattle.std.proofs.Common.{◌∙◌}
use Rattle.base64ct.proofs.DecoderLemmas.{one_value}
use Rattle.base64ct.proofs.LinesLemmas.{Lines-unique}
use Rattle.base64ct.proofs.line_laws.text_has_one_value.Goals as goal

pub returns : goal.returns
returns g c = λ width text a b low p q.
    one_value g.E.Alphabet.form.end g.E.Alphabet.form.table g.E.Alphabet.form.padded p.0 a b (facts g.E.Alphabet.form.table g.met.E.Alphabet.lawful) p.3 q.3 p.2
    (Lines-unique width text p.0 q.0 low p.1 q.1 ∙ q.2)
