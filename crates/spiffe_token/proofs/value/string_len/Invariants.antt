use Rattle.std.proofs.Common.{◌≡◌, ◌+◌, drop, option_map}
use Rattle.spiffe_token.specs.declared.value.Place.TheVariants.{Quoted}
use Rattle.spiffe_token.specs.Strings.{string_from}
use Rattle.spiffe_token.proofs.value.string_len.Given as goal

abbrev pub invariant-loop-i : goal.invariant-loop-i
invariant-loop-i l = string_from Quoted l.bytes ≡ option_map (λ n. l.i + n) (string_from l.place (drop l.i l.bytes))
