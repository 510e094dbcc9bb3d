use Rattle.std.proofs.Common.{◌≡◌, drop, ◌&&◌}
use Rattle.base64_alphabet.specs.Passes.{read_places}
use Rattle.base64_alphabet.proofs.encode_lanes.passes_read_places.Given as goal

-- what was seen and the rest give the answer
abbrev pub invariant-loop-step : goal.invariant-loop-step
invariant-loop-step g l = record {
  answer : read_places g.E.Alphabet.encode_steps ≡ (l.all && read_places (drop l.step-index l.step-items));
}
