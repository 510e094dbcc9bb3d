use Rattle.std.proofs.Common.{◌≡◌, ℕ, ◌+◌, ◌-◌, ◌*◌, ◌≤◌, drop, length, refl, arith, slice_range, take, List, ◌∙◌, ap, length-drop}
use Rattle.std.proofs.lemmas.List.{length-take-le}
use Rattle.base64_alphabet.proofs.EncodePartsLemmas.{written_step, rest_step, written_end}
use Rattle.base64_alphabet.proofs.encode_lanes.encode_parts.Goals as goal

pub loop-part-preserved : goal.loop-part-preserved
loop-part-preserved g c =
    let k : ℕ = c.loop-part.part in
    let part : List ℕ = slice_range c.args.src.now (24 * c.loop-part.part) (24 * c.loop-part.part + 24) in
    let size : 24 * c.loop-part.part + 24 - 24 * c.loop-part.part ≡ 24 = omega arith in
    let is : slice_range c.args.src.now (24 * c.loop-part.part) (24 * c.loop-part.part + 24) ≡ take 24 (drop (24 * c.loop-part.part) c.args.src.now) =
    ap (λ n. take n (drop (24 * c.loop-part.part) c.args.src.now)) size in
    let l = length-drop (32 * c.loop-part.part) c.loop-part.dst in
    let room : 32 * c.loop-part.part + 32 ≤ length c.loop-part.dst = omega arith in
    let wide : length (take (32 * c.loop-part.part + 32 - 32 * c.loop-part.part) (drop (32 * c.loop-part.part) c.loop-part.dst)) ≡ 32 =
    length-take-le (32 * c.loop-part.part + 32 - 32 * c.loop-part.part) (drop (32 * c.loop-part.part) c.loop-part.dst) (omega arith) ∙ omega arith in
    let long : length c.encode_part.new.dst ≡ 32 = c.encode_part.auto.dst ∙ wide in
    record {
      written = written_step g.E.Alphabet.form.end g.E.Alphabet.form.table c.args.src.now part c.loop-part.dst c.encode_part.new.dst k is (omega arith) room
          long
          c.encode_part.ensures.written _ c.loop-part.invariant.written;
      rest = rest_step c.loop-part.dst c.encode_part.new.dst c.args.dst.now k room long c.loop-part.invariant.rest;
      steps = rw (c.encode_part.ensures.steps, c.loop-part.invariant.steps) (omega arith);
    }

pub returns-clause-written : goal.returns-clause-written
returns-clause-written g c = written_end g.E.Alphabet.form.end g.E.Alphabet.form.table c.args.src.now c.loop-part.dst c.args.dst.now c.loop-part.part _
    c.requires.whole refl c.loop-part-test.false c.loop-part.auto.part-end c.loop-part.invariant.written c.loop-part.invariant.rest
