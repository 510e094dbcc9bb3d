-- The content of a SEQUENCE OF (X.690, 8.10).
use Rattle.std.specs.Prelude.{◌≡◌, ℕ, List, [], ◌∷◌}
use Rattle.der_core.specs.Decode.{ReadsTagged}
use Rattle.der_core.specs.Sequence.{Then}
use Rattle.der_core.specs.Tags.{sequence_tag}

-- The bytes are encodings of the values, one behind the other.
abbrev pub Elements : {V : Type 0} → (List ℕ → V → Type 0) → List V → List ℕ → Type 0
Elements Reads [] = λ bytes. bytes ≡ []
Elements Reads (v ∷ vs) = λ bytes. Then Reads (Elements Reads vs) bytes v

-- The bytes are a SEQUENCE OF the values.
abbrev pub ReadsList : {V : Type 0} → (List ℕ → V → Type 0) → List ℕ → List V → Type 0
ReadsList Reads = ReadsTagged sequence_tag (λ content vs. Elements Reads vs content)
