-- Four tests together.
use Rattle.std.proofs.Common.{◌≡◌, ◌↔◌, Bool, true, false, refl, ◌&&◌}

pub four_true : (s t u w : Bool) → (s && (t && (u && w)) ≡ true) ↔ ((s ≡ true) × (t ≡ true) × (u ≡ true) × (w ≡ true))
four_true false t u w = (λ e. cc, λ p. p.0)
four_true true false u w = (λ e. cc, λ p. p.1)
four_true true true false w = (λ e. cc, λ p. p.2)
four_true true true true w = (λ e. (refl, refl, refl, e), λ p. p.3)
