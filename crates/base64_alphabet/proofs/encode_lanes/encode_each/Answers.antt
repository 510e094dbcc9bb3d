use Rattle.std.proofs.Common.{◌≡◌, ℕ, ◌+◌, ◌*◌, List, [], drop, take, refl, arith, slice_range}
use Rattle.std.proofs.lemmas.Grind.{common_steps}
use Rattle.std.proofs.lemmas.List.{drop_all}
use Rattle.base64_alphabet.proofs.EncodeLemmas.{encoded_step, rest_step, encoded_end}
use Rattle.base64_alphabet.proofs.encode_lanes.encode_each.Goals as goal

pub loop-group-preserved : goal.loop-group-preserved
loop-group-preserved g c =
    let src = c.args.src.now in
    let k : ℕ = c.loop-group.group in
    let part : List ℕ = slice_range src (3 * k) (3 * k + 3) in
    let is : part ≡ take 3 (drop (3 * k) src) = grind (arith, common_steps) in
    let none : drop 4 (slice_range c.loop-group.dst (4 * k) (4 * k + 4)) ≡ [] =
    drop_all 4 (slice_range c.loop-group.dst (4 * k) (4 * k + 4)) (grind (arith, common_steps)) in
    record {
      written = encoded_step g.E.Alphabet.form.end g.E.Alphabet.form.table src part c.loop-group.dst c.encode_3bytes_counted.new.dst k is (omega arith)
          (omega arith)
          (grind (arith, common_steps))
          (rw none at c.encode_3bytes_counted.ensures.written) _ c.loop-group.invariant.written;
      rest = rest_step c.loop-group.dst c.encode_3bytes_counted.new.dst c.args.dst.now k (omega arith) (grind (arith, common_steps))
          c.loop-group.invariant.rest;
      steps = rw (c.encode_3bytes_counted.ensures.steps, c.loop-group.invariant.steps) (omega arith);
    }

pub returns-clause-written : goal.returns-clause-written
returns-clause-written g c = encoded_end g.E.Alphabet.form.end g.E.Alphabet.form.table c.args.src.now c.loop-group.dst c.args.dst.now c.loop-group.group _
    c.requires.whole refl c.loop-group-test.false c.loop-group.auto.group-end c.loop-group.invariant.written c.loop-group.invariant.rest
