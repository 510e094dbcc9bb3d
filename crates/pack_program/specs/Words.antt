-- What the words after the program's name ask for.
use Rattle.std.specs.Prelude.{◌≡◌, ℕ, ◌<◌, ◌^◌, List, [], ◌∷◌, codes, decimal}

-- what is packed: the path of its manifest, and the width of the text's lines
pub record Order : Type 0 where
  pub manifest : List ℕ
  pub width : ℕ

-- the words write this order: the command's name, any path, and a width below 2^64 in decimal digits without a leading zero
abbrev pub IsCommand : List (List ℕ) → Order → Type 0
IsCommand words order = (words ≡ codes "pack" ∷ order.manifest ∷ decimal order.width ∷ []) × (order.width < 2 ^ 64)

-- the words are no command
abbrev pub IsUsage : List (List ℕ) → Type 0
IsUsage words = (order : Order) → IsCommand words order → ⊥

-- words are one order at most
abbrev pub WordsAreOneOrder : Type 0
WordsAreOneOrder = (words : List (List ℕ)) (a b : Order) → IsCommand words a → IsCommand words b → a ≡ b
