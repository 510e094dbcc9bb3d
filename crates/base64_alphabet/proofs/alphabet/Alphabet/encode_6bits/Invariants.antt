use Rattle.std.proofs.Common.{◌≡◌, drop, true, pos, unsigned_abs, slice_index}
use Rattle.base64_alphabet.specs.Passes.{turns_fit, turned_from}
use Rattle.base64_alphabet.proofs.alphabet.Alphabet.encode_6bits.Given as goal

-- what the rest of the steps adds gives the character, and no sum of it leaves i16
abbrev pub invariant-loop-step : goal.invariant-loop-step
invariant-loop-step g l = record {
  fits : turns_fit l.sum (drop l.step-index l.step-items) l.src ≡ true;
  sum : turned_from l.sum (drop l.step-index l.step-items) l.src ≡ pos (slice_index g.Self.Alphabet.form.table (unsigned_abs l.src));
}
