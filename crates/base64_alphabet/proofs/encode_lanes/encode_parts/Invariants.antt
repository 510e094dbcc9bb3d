use Rattle.std.proofs.Common.{◌≡◌, ◌*◌, ◌+◌, ◌++◌, drop, take}
use Rattle.base64_alphabet.specs.Encoding.{characters}
use Rattle.base64_alphabet.proofs.encode_lanes.encode_parts.Given as goal

-- what was written and the rest give the characters
abbrev pub invariant-loop-part : goal.invariant-loop-part
invariant-loop-part g l = record {
  written : take (32 * l.part) l.dst ++ characters g.E.Alphabet.form.end g.E.Alphabet.form.table (drop (24 * l.part) l.src)
      ≡ characters g.E.Alphabet.form.end g.E.Alphabet.form.table l.src;
  rest : drop (32 * l.part) l.dst ≡ drop (32 * l.part) l.initial.dst;
  steps : l.steps ≡ l.initial.steps + 32 * l.part;
}
