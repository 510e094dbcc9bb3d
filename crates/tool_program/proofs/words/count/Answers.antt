use Rattle.std.proofs.Common.{◌≡◌, ◌∙◌, sym, arith}
use Rattle.std.proofs.lemmas.Fmt.{decimal_injective}
use Rattle.tool_program.proofs.words.count.Goals as goal
use Rattle.tool_program.proofs.words.count.Goals.{else-n-ge1-via-then-n-ge1+else-n-most, else-n-ge1-via-else-n-ge1}

pub returns-else-n-ge1-clause-none : goal.returns-else-n-ge1-clause-none
returns-else-n-ge1-clause-none c n low high e =
    let same : n ≡ c.in_ok-n.n = decimal_injective n c.in_ok-n.n (omega (arith, high, c.ranges.most.fits)) c.in_ok-n.ensures.some.1
    (sym e ∙ c.in_ok-n.ensures.some.0) in
    elim c.else-n-ge1.branch [
      | else-n-ge1-via-then-n-ge1+else-n-most w ↦ omega (arith, same, high, w.if-n-most)
      | else-n-ge1-via-else-n-ge1 w ↦ omega
          (arith, same, low, w.if-n-ge1)
    ]
