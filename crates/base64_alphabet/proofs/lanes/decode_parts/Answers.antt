use Rattle.std.proofs.Common.{◌≡◌, ℕ, ◌+◌, ◌-◌, ◌*◌, ◌≤◌, drop, length, refl, arith, slice_range, take, List, ◌∙◌, sym, ap, length-drop}
use Rattle.std.proofs.lemmas.List.{length-take-le}
use Rattle.base64_alphabet.proofs.PartsLemmas.{answer_step, part_in, written_step, rest_step, written_end}
use Rattle.base64_alphabet.proofs.lanes.decode_parts.Goals as goal

pub loop-part-preserved : goal.loop-part-preserved
loop-part-preserved g c =
    let k : ℕ = c.loop-part.part in
    let part : List ℕ = slice_range c.args.src.now (32 * c.loop-part.part) (32 * c.loop-part.part + 32) in
    let size : 32 * c.loop-part.part + 32 - 32 * c.loop-part.part ≡ 32 = omega arith in
    let is : slice_range c.args.src.now (32 * c.loop-part.part) (32 * c.loop-part.part + 32) ≡ take 32 (drop (32 * c.loop-part.part) c.args.src.now) =
    ap (λ n. take n (drop (32 * c.loop-part.part) c.args.src.now)) size in
    let l = length-drop (24 * c.loop-part.part) c.loop-part.dst in
    let room : 24 * c.loop-part.part + 24 ≤ length c.loop-part.dst = omega arith in
    let wide : length (take (24 * c.loop-part.part + 24 - 24 * c.loop-part.part) (drop (24 * c.loop-part.part) c.loop-part.dst)) ≡ 24 =
    length-take-le (24 * c.loop-part.part + 24 - 24 * c.loop-part.part) (drop (24 * c.loop-part.part) c.loop-part.dst) (omega arith) ∙ omega arith in
    let long : length c.decode_part-good.new.dst ≡ 24 = c.decode_part-good.auto.dst ∙ wide in
    record {
      answer = answer_step g.E.Alphabet.form.table c.args.src.now part c.loop-part.good _ _ k is c.loop-part.invariant.answer c.decode_part-good.ensures.answer;
      written = λ h. written_step g.E.Alphabet.form.end g.E.Alphabet.form.table c.args.src.now part c.loop-part.dst c.decode_part-good.new.dst k is
          (omega arith) room
          long
          (c.decode_part-good.ensures.written (part_in g.E.Alphabet.form.table c.args.src.now part c.loop-part.good k is
          (sym c.loop-part.invariant.answer ∙ h)))
          _ (c.loop-part.invariant.written h);
      rest = rest_step c.loop-part.dst c.decode_part-good.new.dst c.args.dst.now k room long c.loop-part.invariant.rest;
      steps = rw (c.decode_part-good.ensures.steps, c.loop-part.invariant.steps) (omega arith);
    }

pub returns-clause-written : goal.returns-clause-written
returns-clause-written g c h = written_end g.E.Alphabet.form.end g.E.Alphabet.form.table c.args.src.now c.loop-part.dst c.args.dst.now c.loop-part.part _
    c.requires.whole refl c.loop-part-test.false c.loop-part.auto.part-end (c.loop-part.invariant.written h) c.loop-part.invariant.rest
