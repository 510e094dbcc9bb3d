use Rattle.std.proofs.Common.{◌≡◌, ◌+◌, ◌-◌, ◌++◌, ◌∙◌, List, ℕ, ap, append_assoc, arith, sym}
use Rattle.std.specs.List.{repeat}
use Rattle.tool_commands.proofs.Made.{repeat_more}
use Rattle.tool_commands.proofs.made_entries.repeated.Goals as goal

pub loop-preserved : goal.loop-preserved
loop-preserved c =
    let left : ℕ = c.args.times - c.loop.counter in
    let less : left - 1 ≡ c.args.times - (c.loop.counter + 1) = omega arith in
    let rest : List ℕ = repeat (c.args.times - (c.loop.counter + 1)) c.args.bytes.now in
    let step : repeat left c.args.bytes.now ≡ c.args.bytes.now ++ rest = repeat_more left c.args.bytes.now (omega arith)
    ∙ ap (λ k. c.args.bytes.now ++ repeat k c.args.bytes.now) less in
    ap (λ (xs : List ℕ). xs ++ rest) c.in_ok-extend_from_slice.ensures.items
    ∙ (append_assoc c.loop.all.items c.args.bytes.now rest ∙ (ap (λ (xs : List ℕ). c.loop.all.items ++ xs) (sym step) ∙ c.loop.invariant))
