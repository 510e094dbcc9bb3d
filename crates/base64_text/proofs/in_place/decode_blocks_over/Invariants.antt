use Rattle.std.proofs.Common.{◌≡◌, ◌-◌, ◌*◌, ◌+◌, ◌≤◌, drop, take, true}
use Rattle.base64_alphabet.specs.Table.{all_in}
use Rattle.base64_alphabet.specs.Encoding.{bytes_of_blocks}
use Rattle.base64_text.proofs.in_place.decode_blocks_over.Given as goal

abbrev pub invariant-loop-done : goal.invariant-loop-done
invariant-loop-done g l = record {
  few : l.done ≤ l.blocks;
  answer : l.good ≡ all_in g.E.Alphabet.form.table (take (4 * l.done) l.initial.buf);
  written : l.good ≡ true → take (3 * l.done) l.buf ≡ bytes_of_blocks g.E.Alphabet.form.end g.E.Alphabet.form.table (take (4 * l.done) l.initial.buf);
  rest : drop (4 * l.done) l.buf ≡ drop (4 * l.done) l.initial.buf;
  steps : l.steps ≡ l.initial.steps + 4 * l.done;
}

abbrev pub decreases-loop-done : goal.decreases-loop-done
decreases-loop-done g l = l.blocks - l.done
