use Rattle.std.proofs.Common.{take, drop, ap, sym, ◌∙◌}
use Rattle.base64_alphabet.specs.Table.{all_in}
use Rattle.base64ct.specs.Walk.{characters_left}
use Rattle.base64ct.proofs.LeftLemmas.{in_front, blocks_front}
use Rattle.base64ct.proofs.left.read_run.Goals as goal

pub returns-then-run-eq0-clause-characters : goal.returns-then-run-eq0-clause-characters
returns-then-run-eq0-clause-characters g c =
    let f = in_front (characters_left c.settled-reader.result) c.next_block.result.0 (characters_left c.next_block.result.1) 4
    c.next_block.ensures.characters c.next_block.ensures.long in
    f.rest ∙ ap (drop 4) c.settled-reader.ensures.same

pub returns-then-run-eq0-clause-answer : goal.returns-then-run-eq0-clause-answer
returns-then-run-eq0-clause-answer g c =
    let f = in_front (characters_left c.settled-reader.result) c.next_block.result.0 (characters_left c.next_block.result.1) 4
    c.next_block.ensures.characters c.next_block.ensures.long in
    c.decode_front-good.ensures.answer ∙ ap (all_in g.E.Alphabet.form.table) (sym f.first ∙ ap (take 4) c.settled-reader.ensures.same)

pub returns-then-run-eq0-clause-written : goal.returns-then-run-eq0-clause-written
returns-then-run-eq0-clause-written g c h =
    let f = in_front (characters_left c.settled-reader.result) c.next_block.result.0 (characters_left c.next_block.result.1) 4
    c.next_block.ensures.characters c.next_block.ensures.long in
    blocks_front g.E.Alphabet.form.end g.E.Alphabet.form.table c.next_block.result.0 (characters_left c.args.reader) c.decode_front-good.new.dst _ 1
    c.next_block.ensures.long
    (c.decode_front-good.ensures.written (sym c.decode_front-good.ensures.answer ∙ h)) (ap (take 4) (sym c.settled-reader.ensures.same) ∙ f.first)
