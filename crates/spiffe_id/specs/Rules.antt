-- Rules that are tried in order: the answer is a value, or the first broken rule.
use Rattle.std.specs.Prelude.{Result, Ok, Err}

-- the same answer, with its value seen by `f`
abbrev pub map_ok : {A B E : Type 0} → (A → B) → Result A E → Result B E
map_ok f (Ok a) = Ok (f a)
map_ok f (Err e) = Err e

-- the next rules, which are tried where the earlier ones hold
abbrev pub then_ok : {A B E : Type 0} → Result A E → (A → Result B E) → Result B E
then_ok (Ok a) next = next a
then_ok (Err e) next = Err e
