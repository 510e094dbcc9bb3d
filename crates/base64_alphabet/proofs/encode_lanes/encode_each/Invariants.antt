use Rattle.std.proofs.Common.{◌≡◌, ◌+◌, ◌*◌, ◌++◌, drop, take}
use Rattle.base64_alphabet.specs.Encoding.{characters}
use Rattle.base64_alphabet.proofs.encode_lanes.encode_each.Given as goal

abbrev pub invariant-loop-group : goal.invariant-loop-group
invariant-loop-group g l = record {
  written : take (4 * l.group) l.dst ++ characters g.E.Alphabet.form.end g.E.Alphabet.form.table (drop (3 * l.group) l.src)
      ≡ characters g.E.Alphabet.form.end g.E.Alphabet.form.table l.src;
  rest : drop (4 * l.group) l.dst ≡ drop (4 * l.group) l.initial.dst;
  steps : l.steps ≡ l.initial.steps + 4 * l.group;
}
