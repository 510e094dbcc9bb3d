-- The words of a command line are one command at most.
use Rattle.std.proofs.Common.{◌≡◌, ◌∙◌, ◌<◌, ◌≤◌, ◌^◌, ℕ, List, [], ◌∷◌, codes, decimal, get_or, sym, ap, arith}
use Rattle.std.proofs.lemmas.Fmt.{decimal_injective}
use Rattle.tool_program.specs.Words.{IsCommand, WordsAreOneCommand}
use Rattle.tool_program.specs.declared.words.Command.{Command}
use Rattle.tool_program.specs.declared.words.Command.TheVariants.{Show, Serve, Watch, Make}

-- a character of the first word can't be two
other_name : (words : List (List ℕ)) (k a b : ℕ) → get_or (get_or words 0 []) k 0 ≡ a → get_or (get_or words 0 []) k 0 ≡ b → a < b → ⊥
other_name words k a b p q below = omega (arith, p, q, below)

at : (k : ℕ) (words other : List (List ℕ)) → words ≡ other → get_or words k [] ≡ get_or other k []
at k words other e = ap (λ l. get_or l k []) e

letter : (k : ℕ) (words other : List (List ℕ)) → words ≡ other → get_or (get_or words 0 []) k 0 ≡ get_or (get_or other 0 []) k 0
letter k words other e = ap (λ l. get_or (get_or l 0 []) k 0) e

pub one_command : WordsAreOneCommand
one_command words (Show m) (Show n) p q = ap Show (decimal_injective m n p.1 q.1 (sym (at 1 words _ p.0) ∙ at 1 words _ q.0))
one_command words (Serve m) (Serve n) p q = ap Serve (decimal_injective m n p.1 q.1 (sym (at 1 words _ p.0) ∙ at 1 words _ q.0))
one_command words (Show m) (Serve n) p q = absurd (other_name words 1 101 104 (letter 1 words _ q.0) (letter 1 words _ p.0) (omega arith))
one_command words (Serve m) (Show n) p q = absurd (other_name words 1 101 104 (letter 1 words _ p.0) (letter 1 words _ q.0) (omega arith))
one_command words (Make m) (Make n) p q = ap Make (decimal_injective m n (omega (arith, p.2)) (omega (arith, q.2)) (sym (at 1 words _ p.0) ∙ at 1 words _ q.0))
one_command words (Show m) (Make n) p q = absurd (other_name words 0 109 115 (letter 0 words _ q.0) (letter 0 words _ p.0) (omega arith))
one_command words (Make m) (Show n) p q = absurd (other_name words 0 109 115 (letter 0 words _ p.0) (letter 0 words _ q.0) (omega arith))
one_command words (Serve m) (Make n) p q = absurd (other_name words 0 109 115 (letter 0 words _ q.0) (letter 0 words _ p.0) (omega arith))
one_command words (Make m) (Serve n) p q = absurd (other_name words 0 109 115 (letter 0 words _ p.0) (letter 0 words _ q.0) (omega arith))
one_command words (Watch m j) (Watch n k) p q =
    ap (λ x. Watch x j) (decimal_injective m n p.1 q.1 (sym (at 1 words _ p.0) ∙ at 1 words _ q.0))
    ∙ ap (λ y. Watch n y) (decimal_injective j k (omega (arith, p.3)) (omega (arith, q.3)) (sym (at 2 words _ p.0) ∙ at 2 words _ q.0))
one_command words (Show m) (Watch n k) p q = absurd (other_name words 0 115 119 (letter 0 words _ p.0) (letter 0 words _ q.0) (omega arith))
one_command words (Watch m j) (Show n) p q = absurd (other_name words 0 115 119 (letter 0 words _ q.0) (letter 0 words _ p.0) (omega arith))
one_command words (Serve m) (Watch n k) p q = absurd (other_name words 0 115 119 (letter 0 words _ p.0) (letter 0 words _ q.0) (omega arith))
one_command words (Watch m j) (Serve n) p q = absurd (other_name words 0 115 119 (letter 0 words _ q.0) (letter 0 words _ p.0) (omega arith))
one_command words (Make m) (Watch n k) p q = absurd (other_name words 0 109 119 (letter 0 words _ p.0) (letter 0 words _ q.0) (omega arith))
one_command words (Watch m j) (Make n) p q = absurd (other_name words 0 109 119 (letter 0 words _ q.0) (letter 0 words _ p.0) (omega arith))
