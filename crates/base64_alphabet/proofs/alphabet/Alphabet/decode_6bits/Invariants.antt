use Rattle.std.proofs.Common.{◌≡◌, drop, true}
use Rattle.base64_alphabet.specs.Table.{place_of}
use Rattle.base64_alphabet.specs.Passes.{sums_fit, sum_from}
use Rattle.base64_alphabet.proofs.alphabet.Alphabet.decode_6bits.Given as goal

-- what the rest of the steps adds gives the place, and no sum of it leaves i16
abbrev pub invariant-loop-step : goal.invariant-loop-step
invariant-loop-step g l = record {
  fits : sums_fit l.sum (drop l.step-index l.step-items) l.src ≡ true;
  sum : sum_from l.sum (drop l.step-index l.step-items) l.src ≡ place_of g.Self.Alphabet.form.table l.src;
}
