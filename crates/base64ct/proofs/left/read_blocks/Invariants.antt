use Rattle.std.proofs.Common.{◌≡◌, ◌-◌, ◌*◌, ◌≤◌, take, drop, true}
use Rattle.base64_alphabet.specs.Encoding.{bytes_of_blocks}
use Rattle.base64_alphabet.specs.Table.{all_in}
use Rattle.base64ct.specs.Walk.{IsReader, characters_left}
use Rattle.base64ct.proofs.left.read_blocks.Given as goal

abbrev pub invariant-loop-done : goal.invariant-loop-done
invariant-loop-done g l = record {
  few : l.done ≤ l.blocks;
  reader : IsReader l.at;
  characters : characters_left l.at ≡ drop (4 * l.done) (characters_left l.fn.reader);
  answer : l.good ≡ all_in g.E.Alphabet.form.table (take (4 * l.done) (characters_left l.fn.reader));
  written : l.good ≡ true → take (3 * l.done) l.out ≡ bytes_of_blocks g.E.Alphabet.form.end g.E.Alphabet.form.table
      (take (4 * l.done) (characters_left l.fn.reader));
}

abbrev pub decreases-loop-done : goal.decreases-loop-done
decreases-loop-done g l = l.blocks - l.done
