-- The parts of a bit string (X.690, 8.6.2).
use Rattle.std.specs.Prelude.{◌≡◌, ◌⊎◌, ℕ, ◌+◌, ◌<◌, ◌^◌, List, [], ◌∷◌, length}

-- At most seven bits are unused, and none where no octet follows. The content has fewer than 2 ^ 32 bytes.
pub record AreBits (unused : ℕ) (raw : List ℕ) : Type 0 where
  pub few : unused < 8
  pub none : length raw ≡ 0 → unused ≡ 0
  pub small : length raw + 1 < 2 ^ 32

-- A count of unused bits that no such string has.
abbrev pub HasBadCount : ℕ → List ℕ → Type 0
HasBadCount unused raw = (7 < unused) ⊎ ((raw ≡ []) × (0 < unused))

pub record PlainBits : Type 0 where
  pub unused_bits : ℕ
  pub octets : List ℕ

-- The content is the count of unused bits and the octets.
pub record BitsContent (content : List ℕ) (v : PlainBits) : Type 0 where
  pub bits : AreBits v.unused_bits v.octets
  pub is : content ≡ v.unused_bits ∷ v.octets
