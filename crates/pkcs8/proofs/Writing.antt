-- What is left of the fields behind one that a writer refused.
use Rattle.std.proofs.Common.{◌≡◌, ℕ, ◌<◌, ◌^◌, List, [], ◌∷◌, ◌++◌, length, Option, Result, Err, refl}
use Rattle.der_core.specs.Encode.{Wrote}
use Rattle.der_core.specs.SequenceLaws.{front_fits}
use Rattle.der_core.specs.Writing.{wrote_refused}
use Rattle.der_core.specs.declared.error.Error.{Error}

-- Fields behind first bytes.
abbrev pub behind : List ℕ → List (List ℕ) → List ℕ
behind bytes [] = bytes
behind bytes (field ∷ fields) = behind (bytes ++ field) fields

pub behind_fits : (bytes : List ℕ) (fields : List (List ℕ)) → length (behind bytes fields) < 2 ^ 32 → length bytes < 2 ^ 32
behind_fits bytes [] fits = fits
behind_fits bytes (field ∷ fields) fits = front_fits bytes field (behind_fits (bytes ++ field) fields fits)

pub refused_before : {W X Y : Type 0} {HasTold : W → List ℕ → Type 0} {refusals : W → ℕ} {last_refusal : W → Option Error} {old new : W} {bytes : List ℕ}
    {e : Error} {r : Result X Error} (fields : List (List ℕ)) → Wrote {X = Y} HasTold refusals last_refusal old new bytes (Err e) → r ≡ Err e
    → length (behind bytes fields) < 2 ^ 32 → Wrote HasTold refusals last_refusal old new (behind bytes fields) r
refused_before {bytes = bytes} [] w is fits = rw is (record { ok = tt; err = w.err; part = w.part })
refused_before {X = X} {bytes = bytes} {e = e} (field ∷ fields) w is fits =
    refused_before {Y = X} fields (wrote_refused {r = Err e} field w refl (behind_fits (bytes ++ field) fields fits)) is fits
