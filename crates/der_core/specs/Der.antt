-- What a DER value is: a tag, the shortest length, a content of that length.
use Rattle.std.specs.Prelude.{◌≡◌, ℕ, ◌/◌, ◌%◌, ◌^◌, ◌<◌, List, [], ◌∷◌, ◌++◌, length, nat_lt, if◌then◌else◌}

-- A tag byte of the profile: not 0, and not the mark of a longer tag.
pub record IsTag (n : ℕ) : Type 0 where
  pub present : 0 < n
  pub byte : n < 256
  pub single : n % 32 < 31

-- The shortest spelling of a length. From 2 ^ 32 on it spells none.
unfoldable pub length_bytes : ℕ → List ℕ
length_bytes n =
    if nat_lt n 128
    then n ∷ []
    else (if nat_lt n 256
    then 129 ∷ n ∷ []
    else (if nat_lt n 65536
    then 130 ∷ n / 256 ∷ n % 256 ∷ []
    else (if nat_lt n 16777216
    then 131 ∷ n / 65536 ∷ n / 256 % 256 ∷ n % 256 ∷ []
    else 132 ∷ n / 16777216 ∷ n / 65536 % 256 ∷ n / 256 % 256 ∷ n % 256 ∷ [])))

-- The value of a tag and a content.
unfoldable pub encode : ℕ → List ℕ → List ℕ
encode tag content = tag ∷ [] ++ length_bytes (length content) ++ content

-- The bytes are one value of the profile.
pub record IsValue (b : List ℕ) : Type 0 where
  pub tag : ℕ
  pub content : List ℕ
  pub tag_ok : IsTag tag
  pub is : b ≡ encode tag content
  pub fits : length b < 2 ^ 32
