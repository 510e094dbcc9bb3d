use Rattle.std.proofs.Common.{◌≡◌, ◌+◌, [], drop, reverse, option_map}
use Rattle.spiffe_token.specs.declared.value.Place.TheVariants.{Outside}
use Rattle.spiffe_token.specs.Values.{value_from}
use Rattle.spiffe_token.proofs.value.value_len.Given as goal

abbrev pub invariant-loop-i : goal.invariant-loop-i
invariant-loop-i l = value_from [] Outside l.bytes ≡ option_map (λ n. l.i + n) (value_from (reverse l.brackets.items) l.place (drop l.i l.bytes))
