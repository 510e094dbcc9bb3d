use Rattle.std.proofs.Common.{List, ℕ, subst, sym}
use Rattle.std.proofs.lemmas.Fmt.{IsAscii-decimal}
use Rattle.std.proofs.lemmas.Str.{IsUtf8-from_ascii}
use Rattle.std.specs.Str.{IsUtf8}
use Rattle.tool_script.proofs.line.number_of.Goals as goal

pub returns-in-Err-clause-none : goal.returns-in-Err-clause-none
returns-in-Err-clause-none c = λ n small e.
    let P : List ℕ → Type 0 = λ bs. IsUtf8 bs in
    c.in-Err.ensures.cases.0 (subst P (sym e) (IsUtf8-from_ascii _ (IsAscii-decimal n small)))
