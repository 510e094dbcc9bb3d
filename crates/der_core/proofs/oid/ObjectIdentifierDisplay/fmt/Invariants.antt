use Rattle.std.proofs.Common.{ℕ, ◌∷◌, ◌++◌}
use Rattle.std.specs.List.{flat_map}
use Rattle.std.specs.Fmt.{HasWritten, IsPlainFormatter, decimal}
use Rattle.der_core.proofs.oid.ObjectIdentifierDisplay.fmt.Given as goal

abbrev pub invariant-loop-arc : goal.invariant-loop-arc
invariant-loop-arc g l = IsPlainFormatter l.fn.f → HasWritten g.W.Write.write_str_gives l.fn.f
    (decimal l.first ++ flat_map (λ (n : ℕ). 46 ∷ decimal n) l.yielded) l.f
