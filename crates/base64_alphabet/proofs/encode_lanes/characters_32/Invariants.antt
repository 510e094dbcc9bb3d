use Rattle.std.proofs.Common.{◌≡◌, map, take, pos, ◌+ℤ◌}
use Rattle.base64_alphabet.specs.Passes.{turned_from}
use Rattle.base64_alphabet.specs.Lanes.{low_byte}
use Rattle.base64_alphabet.proofs.encode_lanes.characters_32.Given as goal

-- what the passes so far add
abbrev pub invariant-loop-step : goal.invariant-loop-step
invariant-loop-step g l = record {
  sum : l.sum ≡ map (λ s. low_byte (turned_from (pos s +ℤ pos g.E.Alphabet.BASE) (take l.step-index l.step-items) (pos s))) l.digits;
}
