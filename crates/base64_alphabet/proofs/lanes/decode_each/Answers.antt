use Rattle.std.proofs.Common.{◌≡◌, ℕ, ◌+◌, ◌*◌, ◌/◌, drop, length, refl, arith, slice_range, take, List, ◌∙◌, sym}
use Rattle.std.proofs.lemmas.Grind.{common_steps}
use Rattle.base64_alphabet.proofs.BlocksLemmas.{answer_step, part_in, written_step, rest_step, answer_end, written_end}
use Rattle.base64_alphabet.proofs.lanes.decode_each.Goals as goal

pub loop-block-preserved : goal.loop-block-preserved
loop-block-preserved g c =
    let src = c.args.src.now in
    let k : ℕ = c.loop-block.block in
    let part : List ℕ = slice_range src (4 * k) (4 * k + 4) in
    let is : part ≡ take 4 (drop (4 * k) src) = grind (arith, common_steps) in
    record {
      answer = answer_step g.E.Alphabet.form.table src part c.loop-block.good _ k _ is c.loop-block.invariant.answer
          c.decode_3bytes_counted-answer.ensures.answer;
      written = λ h. written_step g.E.Alphabet.form.end g.E.Alphabet.form.table src part c.loop-block.dst c.decode_3bytes_counted-answer.new.dst
          (slice_range c.loop-block.dst (3 * k) (3 * k + 3)) k is (omega arith) (omega arith)
          (grind (arith, common_steps)) (grind (arith, common_steps))
          (c.decode_3bytes_counted-answer.ensures.written (part_in g.E.Alphabet.form.table src part c.loop-block.good k is
          (sym c.loop-block.invariant.answer ∙ h)))
          _ (c.loop-block.invariant.written h);
      rest = rest_step c.loop-block.dst c.decode_3bytes_counted-answer.new.dst c.args.dst.now k (omega arith) (grind (arith, common_steps))
          c.loop-block.invariant.rest;
      steps = rw (c.decode_3bytes_counted-answer.ensures.steps, c.loop-block.invariant.steps) (omega arith);
    }

pub returns-clause-answer : goal.returns-clause-answer
returns-clause-answer g c = answer_end g.E.Alphabet.form.table c.args.src.now c.loop-block.good c.loop-block.block c.requires.whole c.loop-block-test.false
    c.loop-block.invariant.answer

pub returns-clause-written : goal.returns-clause-written
returns-clause-written g c h = written_end g.E.Alphabet.form.end g.E.Alphabet.form.table c.args.src.now c.loop-block.dst c.args.dst.now c.loop-block.block _
    c.requires.whole refl c.loop-block-test.false c.loop-block.auto.block-end (c.loop-block.invariant.written h) c.loop-block.invariant.rest

pub returns-clause-rest : goal.returns-clause-rest
returns-clause-rest g c =
    let e : c.loop-block.block ≡ length c.args.src.now / 4 = omega arith in
    rw (← e) c.loop-block.invariant.rest
