use Rattle.std.proofs.Common.{◌≡◌, ℕ, ◌+◌, ◌*◌, ◌≤◌, Bool, ◌&&◌, List, length, take, drop, arith, refl, ap, sym, ◌∙◌}
use Rattle.std.proofs.lemmas.Bool.{and_parts}
use Rattle.std.proofs.lemmas.List.{drop-drop}
use Rattle.base64_alphabet.specs.Encoding.{bytes_of_blocks}
use Rattle.base64_alphabet.specs.Table.{all_in}
use Rattle.base64_alphabet.proofs.BlocksLemmas.{all_in-append}
use Rattle.base64ct.specs.Walk.{characters_left}
use Rattle.base64_text.proofs.LooseLemmas.{take_blocks_plus}
use Rattle.base64ct.proofs.LeftLemmas.{blocks_more}
use Rattle.base64ct.proofs.left.read_blocks.Goals as goal

pub loop-done-init : goal.loop-done-init
unfolding bytes_of_blocks
loop-done-init g c = record { few = omega arith; reader = c.requires.reader; characters = refl; answer = refl; written = λ h. refl }

pub loop-done-preserved : goal.loop-done-preserved
loop-done-preserved g c =
    let chars : List ℕ = characters_left c.args.reader in
    let done : ℕ = c.loop-done.done in
    let count : ℕ = c.read_run-count.result.1 in
    let r = c.read_run-count.ensures in
    let inv = c.loop-done.invariant in
    let n = r.count in
    let e : 4 * c.loop-done.done + 4 * c.read_run-count.result.1 ≡ 4 * (c.loop-done.done + c.read_run-count.result.1) = omega arith in
    let more : c.read_run-count.result.2 ≡ all_in g.E.Alphabet.form.table
    (take (4 * c.read_run-count.result.1) (drop (4 * c.loop-done.done) (characters_left c.args.reader)))
    = r.answer ∙ ap (λ (us : List ℕ). all_in g.E.Alphabet.form.table (take (4 * c.read_run-count.result.1) us)) inv.characters in
    let most : c.loop-done.done + c.read_run-count.result.1 ≤ c.args.blocks = (let m = n.1 in let t = c.loop-done-test.true in omega arith) in
    let enough = c.requires.enough in
    let room : length c.loop-done.out ≡ 3 * c.args.blocks = c.loop-done.auto.out ∙ c.requires.room in
    record {
      few = most;
      reader = r.reader;
      characters = r.characters ∙ ap (drop (4 * c.read_run-count.result.1)) inv.characters
          ∙ drop-drop (4 * c.read_run-count.result.1) (4 * c.loop-done.done) (characters_left c.args.reader)
          ∙ ap (λ (k : ℕ). drop k (characters_left c.args.reader)) e;
      answer = ap (λ (b : Bool). b && c.read_run-count.result.2) inv.answer
          ∙ ap (λ (b : Bool). all_in g.E.Alphabet.form.table (take (4 * c.loop-done.done) (characters_left c.args.reader)) && b) more
          ∙ sym (ap (all_in g.E.Alphabet.form.table) (take_blocks_plus c.loop-done.done c.read_run-count.result.1 (characters_left c.args.reader))
          ∙ all_in-append g.E.Alphabet.form.table (take (4 * c.loop-done.done) (characters_left c.args.reader))
          (take (4 * c.read_run-count.result.1) (drop (4 * c.loop-done.done) (characters_left c.args.reader))));
      written = λ h. (let parts = and_parts c.loop-done.good c.read_run-count.result.2 h in
          blocks_more g.E.Alphabet.form.end g.E.Alphabet.form.table (characters_left c.args.reader) c.loop-done.out c.read_run-count.new.out c.loop-done.done
          c.read_run-count.result.1 (length c.loop-done.out)
          (omega arith) refl (omega arith) (inv.written parts.0)
          (r.written parts.1 ∙ ap (λ (us : List ℕ). bytes_of_blocks g.E.Alphabet.form.end g.E.Alphabet.form.table (take (4 * c.read_run-count.result.1) us))
          inv.characters));
    }
