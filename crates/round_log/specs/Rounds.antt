-- The rule of the book of a log in rounds, and what its steps tell.
use Rattle.std.specs.Prelude.{◌≡◌, ℕ, zero, suc, ◌+◌, ◌*◌, ◌^◌, ◌<◌, ◌==◌, Bool, true, false, cond, List, [], ◌∷◌, ◌++◌, length, MatchBool}
use Rattle.logbook.specs.Pages.{Cell, Step, View, Book, Named, Nib, nib, may_write, may_make}

-- the cell of a round that goes on
abbrev pub away_cell : Bool → List Cell
away_cell true = (0, false) ∷ []
away_cell false = []

-- the second word of the book, a cell at home for each round that has ended, and one away for a round that goes on
abbrev pub cells_of : ℕ → Bool → List Cell
cells_of zero away = (0, true) ∷ away_cell away
cells_of (suc n) away = (0, true) ∷ cells_of n away

abbrev pub bit : Bool → ℕ
bit b = cond b 1 0

-- The first word is the length of the log, to which each round adds two entries. The cell of the round that goes on is away
pub record IsKept {E : Type 0} (cells : List Cell) (log : List E) : Type 0 where
  pub rounds : ℕ
  pub away : Bool
  pub cells_are : cells ≡ (length log, true) ∷ cells_of rounds away
  pub count : length log ≡ 2 * rounds + bit away

-- the round began where the log was as long as was seen, and the pen of its cell was given
abbrev pub Begins : {E : Type 0} → Step E → View E ℕ → ℕ → View E ℕ → Type 0
Begins s v found w = MatchBool (found == s.old) ((w.0 ≡ v.0 ++ s.ask ∷ []) × ((r : ℕ) × (s.old ≡ 2 * r) × (w.1.0 ≡ nib may_make (r + 2) 0))) (Unit {0})

-- the entry was added to all that had been seen
abbrev pub Adds : {E : Type 0} → Step E → View E ℕ → ℕ → View E ℕ → Type 0
Adds s v found w = w.0 ≡ v.0 ++ s.ask ∷ []

-- the first word of the book
abbrev pub counter_of : Book → Named
counter_of b = record { tracked = true; key = 0; book = b }

-- the parts of an owner's end, which has seen an even number of entries
pub record IsBetweenRounds {E : Type 0} (counter : Named) (b : Book) (log : List E) (len : ℕ) : Type 0 where
  pub rounds : ℕ
  pub counter_is : counter ≡ counter_of b
  pub length_is : len ≡ length log
  pub even : len ≡ 2 * rounds

-- the parts of a round that goes on: its pen is the one of the cell that is away
pub record IsInRound {E : Type 0} (pen_book : Book) (pen : Nib) (b : Book) (log : List E) (len : ℕ) : Type 0 where
  pub rounds : ℕ
  pub same : pen_book ≡ b
  pub pen_is : pen ≡ nib may_write (rounds + 2) 0
  pub length_is : len ≡ length log
  pub odd : len ≡ 2 * rounds + 1
  pub room : len + 1 < 2 ^ 64
