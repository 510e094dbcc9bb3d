use Rattle.std.proofs.Common.{◌≡◌, map, take, negsuc}
use Rattle.base64_alphabet.specs.Passes.{sum_from}
use Rattle.base64_alphabet.specs.Lanes.{low_byte}
use Rattle.base64_alphabet.proofs.lanes.places_32.Given as goal

-- what the passes so far add
abbrev pub invariant-loop-step : goal.invariant-loop-step
invariant-loop-step g l = record {
  sum : l.sum ≡ map (λ x. low_byte (sum_from (negsuc 0) (take l.step-index l.step-items) x)) l.src;
}
