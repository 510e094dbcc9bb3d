use Rattle.std.proofs.Common.{◌≡◌, ℕ, ◌+◌, ◌*◌, ◌≤◌, Bool, ◌&&◌, List, take, drop, arith, refl, ap, sym, ◌∙◌, ◌++◌}
use Rattle.std.proofs.lemmas.Bool.{and_parts}
use Rattle.std.proofs.lemmas.List.{drop-drop}
use Rattle.base64_alphabet.specs.Encoding.{bytes_of_blocks}
use Rattle.base64_alphabet.specs.Table.{all_in}
use Rattle.base64_alphabet.proofs.BlocksLemmas.{all_in-append}
use Rattle.base64_text.proofs.LooseLemmas.{take_blocks_plus, blocks_plus}
use Rattle.base64_text.proofs.in_place.decode_blocks_over.Goals as goal

pub loop-done-init : goal.loop-done-init
unfolding bytes_of_blocks
loop-done-init g c = record { few = omega arith; answer = refl; written = λ h. refl; rest = refl; steps = omega arith }

pub loop-done-preserved : goal.loop-done-preserved
loop-done-preserved g c =
    let src : List ℕ = c.args.buf.now in
    let done : ℕ = c.loop-done.done in
    let count : ℕ = c.min-count.result in
    let inv = c.loop-done.invariant in
    let part = c.decode_part_over-good.ensures in
    let e : 4 * c.loop-done.done + 4 * c.min-count.result ≡ 4 * (c.loop-done.done + c.min-count.result) = omega arith in
    let most : c.loop-done.done + c.min-count.result ≤ c.args.blocks = (let m = c.min-count.ensures in let t = c.loop-done-test.true in omega arith) in
    let enough = c.requires in
    let more : c.decode_part_over-good.result ≡ all_in g.E.Alphabet.form.table (take (4 * c.min-count.result) (drop (4 * c.loop-done.done) c.args.buf.now))
    = part.answer ∙ ap (λ (us : List ℕ). all_in g.E.Alphabet.form.table (take (4 * c.min-count.result) us)) inv.rest in
    let behind : drop (4 * (c.loop-done.done + c.min-count.result)) c.loop-done.buf ≡ drop (4 * (c.loop-done.done + c.min-count.result)) c.args.buf.now
    = ap (λ (n : ℕ). drop n c.loop-done.buf) (sym e) ∙ sym (drop-drop (4 * c.min-count.result) (4 * c.loop-done.done) c.loop-done.buf)
    ∙ ap (drop (4 * c.min-count.result)) inv.rest
    ∙ drop-drop (4 * c.min-count.result) (4 * c.loop-done.done) c.args.buf.now ∙ ap (λ (n : ℕ). drop n c.args.buf.now) e in
    record {
      few = most;
      answer = ap (λ (b : Bool). b && c.decode_part_over-good.result) inv.answer
          ∙ ap (λ (b : Bool). all_in g.E.Alphabet.form.table (take (4 * c.loop-done.done) c.args.buf.now) && b) more
          ∙ sym (ap (all_in g.E.Alphabet.form.table) (take_blocks_plus c.loop-done.done c.min-count.result c.args.buf.now)
          ∙ all_in-append g.E.Alphabet.form.table (take (4 * c.loop-done.done) c.args.buf.now)
          (take (4 * c.min-count.result) (drop (4 * c.loop-done.done) c.args.buf.now)));
      written = λ h. (let parts = and_parts c.loop-done.good c.decode_part_over-good.result h in
          part.written parts.1
          ∙ ap (λ us. us ++ bytes_of_blocks g.E.Alphabet.form.end g.E.Alphabet.form.table
          (take (4 * c.min-count.result) (drop (4 * c.loop-done.done) c.loop-done.buf))) (inv.written parts.0)
          ∙ ap (λ (us : List ℕ). bytes_of_blocks g.E.Alphabet.form.end g.E.Alphabet.form.table (take (4 * c.loop-done.done) c.args.buf.now)
          ++ bytes_of_blocks g.E.Alphabet.form.end g.E.Alphabet.form.table (take (4 * c.min-count.result) us)) inv.rest
          ∙ sym (blocks_plus g.E.Alphabet.form.end g.E.Alphabet.form.table c.loop-done.done c.min-count.result c.args.buf.now (omega arith)));
      rest = part.rest ∙ behind;
      steps = (let s = part.steps in let t = inv.steps in omega arith);
    }
