-- Object identifiers: their bytes, their numbers and their text (X.690, 8.19).
use Rattle.std.specs.Prelude.{◌≡◌, ℕ, ◌+◌, ◌-◌, ◌*◌, ◌/◌, ◌%◌, ◌^◌, ◌<◌, ◌≤◌, List, [], ◌∷◌, ◌++◌, length, nat_lt, min, map, take, replicate, slice_index}
use Rattle.std.specs.Prelude.{if◌then◌else◌}
use Rattle.std.specs.List.{All, flat_map, join_with_byte}
use Rattle.std.specs.Fmt.{decimal}

-- A number in base 128, with the high bit on each byte. A subidentifier is below 2 ^ 32, so four bytes are enough.
unfoldable pub high_bytes : ℕ → List ℕ
high_bytes n =
    if nat_lt n 128
    then (128 + n) ∷ []
    else (if nat_lt n 16384
    then (128 + n / 128) ∷ (128 + n % 128) ∷ []
    else (if nat_lt n 2097152
    then (128 + n / 16384) ∷ (128 + n / 128 % 128) ∷ (128 + n % 128) ∷ []
    else (128 + n / 2097152) ∷ (128 + n / 16384 % 128) ∷ (128 + n / 128 % 128) ∷ (128 + n % 128) ∷ []))

-- A subidentifier in the fewest bytes: base 128, the high bit on all but the last. So none begins with 80.
unfoldable pub subidentifier_bytes : ℕ → List ℕ
subidentifier_bytes n = if nat_lt n 128 then n ∷ [] else high_bytes (n / 128) ++ n % 128 ∷ []

-- The numbers that bytes stand for, where `number` is what the bytes before them began.
unfoldable pub numbers_from : ℕ → List ℕ → List ℕ
numbers_from number [] = []
numbers_from number (byte ∷ rest) =
    if nat_lt byte 128
    then (number * 128 + byte % 128) ∷ numbers_from 0 rest
    else numbers_from (number * 128 + byte % 128) rest

abbrev pub subidentifiers : List ℕ → List ℕ
subidentifiers bytes = numbers_from 0 bytes

-- The bytes are the spelling of the subidentifiers that they stand for.
pub record AreSubidentifiers (bytes : List ℕ) : Type 0 where
  pub spelt : bytes ≡ flat_map subidentifier_bytes (subidentifiers bytes)
  pub small : All (λ n. n < 2 ^ 32) (subidentifiers bytes)

-- The content of an object identifier in this profile.
pub record IsOidContent (bytes : List ℕ) : Type 0 where
  pub some : 1 ≤ length bytes
  pub short : length bytes ≤ 39
  pub numbers : AreSubidentifiers bytes

-- The first subidentifier is 40 times the first arc and the second; the first arc is 0, 1 or 2, and the second is below 40 unless the first is 2.
abbrev pub first_arc : ℕ → ℕ
first_arc n = min (n / 40) 2

abbrev pub second_arc : ℕ → ℕ
second_arc n = n - 40 * first_arc n

abbrev pub with_two_arcs : List ℕ → List ℕ
with_two_arcs [] = []
with_two_arcs (n ∷ rest) = first_arc n ∷ second_arc n ∷ rest

abbrev pub arcs_of : List ℕ → List ℕ
arcs_of content = with_two_arcs (subidentifiers content)

-- The arcs in decimals, joined by dots.
abbrev pub oid_text : List ℕ → List ℕ
oid_text content = join_with_byte 46 (map decimal (arcs_of content))

-- An array begins with the content, and zeros follow.
pub record HoldsOid (bytes : List ℕ) (len : ℕ) : Type 0 where
  pub content : IsOidContent (take len bytes)
  pub within : len ≤ 39
  pub padded : bytes ≡ take len bytes ++ replicate (39 - len) 0

-- The bytes begin with no decimal digit.
pub record EndsDigits (bytes : List ℕ) : Type 0 where
  pub no_digit : 48 ≤ slice_index bytes 0 → slice_index bytes 0 ≤ 57 → ⊥
