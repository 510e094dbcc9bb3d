-- An identifier's bytes, and the zeros behind them.
use Rattle.std.proofs.Common.{◌≡◌, ℕ, ◌-◌, List, ◌++◌, length, drop, replicate, refl}
use Rattle.std.proofs.lemmas.List.{drop-replicate}
use Rattle.std.proofs.Math.Seq.{take-append_seam}
use Rattle.der_core.specs.Oid.{IsOidContent, HoldsOid}

pub holds_oid : (front b : List ℕ) → front ≡ b → IsOidContent b → HoldsOid (front ++ drop (length b) (replicate 39 0)) (length b)
holds_oid front b e c =
    rw (e, drop-replicate {X = ℕ} (length b) 39 0) (
    let same = take-append_seam b (replicate (39 - length b) 0) in
    record { content = rw same c; within = c.short; padded = rw same refl })
