-- Which command the words after the program's name are.
use Rattle.std.specs.Prelude.{◌≡◌, ℕ, ◌<◌, ◌≤◌, ◌^◌, List, [], ◌∷◌, codes, decimal}
use Rattle.tool_program.specs.declared.words.Command.{Command}
use Rattle.tool_program.specs.declared.words.Command.TheVariants.{Show, Serve, Watch, Make}

-- the words write this command: its name, and numbers in decimal digits without a leading zero, a width below 2^64
abbrev pub IsCommand : List (List ℕ) → Command → Type 0
IsCommand words (Show width) = (words ≡ codes "show" ∷ decimal width ∷ []) × (width < 2 ^ 64)
IsCommand words (Serve width) = (words ≡ codes "serve" ∷ decimal width ∷ []) × (width < 2 ^ 64)
IsCommand words (Watch width workers) = (words ≡ codes "watch" ∷ decimal width ∷ decimal workers ∷ []) × (width < 2 ^ 64) × (1 ≤ workers) × (workers ≤ 8)
IsCommand words (Make n) = (words ≡ codes "make" ∷ decimal n ∷ []) × (1 ≤ n) × (n ≤ 10000)

-- the words are no command
abbrev pub IsUsage : List (List ℕ) → Type 0
IsUsage words = (command : Command) → IsCommand words command → ⊥

-- words are one command at most
abbrev pub WordsAreOneCommand : Type 0
WordsAreOneCommand = (words : List (List ℕ)) (a b : Command) → IsCommand words a → IsCommand words b → a ≡ b
