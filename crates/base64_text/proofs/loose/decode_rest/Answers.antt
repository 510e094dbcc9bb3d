use Rattle.std.proofs.Common.{◌≡◌, ℕ, ◌-◌, ◌*◌, ◌/◌, ◌&&◌, ◌==◌, not, Bool, true, length, take, replicate, arith, ap, sym, ◌∙◌, length-append}
use Rattle.std.proofs.lemmas.List.{length-replicate}
use Rattle.base64_alphabet.specs.Table.{all_in}
use Rattle.base64_alphabet.specs.Encoding.{bytes_of_blocks}
use Rattle.base64_alphabet.proofs.TableLemmas.{facts}
use Rattle.base64_text.proofs.LooseLemmas.{answer_zero, rest_in, block_bytes}
use Rattle.base64_text.proofs.loose.decode_rest.Goals as goal

pub returns-clause-good : goal.returns-clause-good
returns-clause-good g c =
    ap (λ (t : Bool). t && not (length c.args.rest.now == 1))
    (answer_zero (all_in g.E.Alphabet.form.table c.filled-block.result) c.decode_3bytes_counted-answer.result c.decode_3bytes_counted-answer.ensures.answer
    ∙ ap (all_in g.E.Alphabet.form.table) c.filled-block.ensures ∙ rest_in g.E.Alphabet.form.table c.args.rest.now (4 - length c.args.rest.now)
    (facts g.E.Alphabet.form.table g.met.E.Alphabet.lawful))

pub returns-clause-written : goal.returns-clause-written
returns-clause-written g c h =
    let in_table : all_in g.E.Alphabet.form.table c.filled-block.result ≡ true
    = ap (all_in g.E.Alphabet.form.table) c.filled-block.ensures ∙ rest_in g.E.Alphabet.form.table c.args.rest.now (4 - length c.args.rest.now)
    (facts g.E.Alphabet.form.table g.met.E.Alphabet.lawful) ∙ h in
    let size = length-append c.args.rest.now (replicate (4 - length c.args.rest.now) 65) in
    let fill = length-replicate {A = ℕ} (4 - length c.args.rest.now) 65 in
    let few = c.requires in
    let four : length c.filled-block.result ≡ 4 = ap length c.filled-block.ensures ∙ omega arith in
    ap (take (3 * length c.args.rest.now / 4)) (c.decode_3bytes_counted-answer.ensures.written in_table
    ∙ sym (block_bytes g.E.Alphabet.form.end g.E.Alphabet.form.table c.filled-block.result four)
    ∙ ap (bytes_of_blocks g.E.Alphabet.form.end g.E.Alphabet.form.table) c.filled-block.ensures)
