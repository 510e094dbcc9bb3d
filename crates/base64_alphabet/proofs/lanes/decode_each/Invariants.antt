use Rattle.std.proofs.Common.{◌≡◌, ◌*◌, ◌+◌, ◌++◌, drop, take, true, ◌&&◌}
use Rattle.base64_alphabet.specs.Table.{all_in}
use Rattle.base64_alphabet.specs.Encoding.{bytes_of_blocks}
use Rattle.base64_alphabet.proofs.lanes.decode_each.Given as goal

-- what was seen and the rest give the answer, and what was written and the rest give the bytes
abbrev pub invariant-loop-block : goal.invariant-loop-block
invariant-loop-block g l = record {
  answer : all_in g.E.Alphabet.form.table l.src ≡ (l.good && all_in g.E.Alphabet.form.table (drop (4 * l.block) l.src));
  written : all_in g.E.Alphabet.form.table l.src ≡ true → take (3 * l.block) l.dst
      ++ bytes_of_blocks g.E.Alphabet.form.end g.E.Alphabet.form.table (drop (4 * l.block) l.src)
      ≡ bytes_of_blocks g.E.Alphabet.form.end g.E.Alphabet.form.table l.src;
  rest : drop (3 * l.block) l.dst ≡ drop (3 * l.block) l.initial.dst;
  steps : l.steps ≡ l.initial.steps + 4 * l.block;
}
