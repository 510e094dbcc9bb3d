use Rattle.std.proofs.Common.{◌≡◌, ◌≤◌, ◌+◌, ◌-◌, length, drop, take, get_or, arith, ap, sym, ◌∙◌, ◌++◌, [], length-take}
use Rattle.std.proofs.lemmas.Grind.{common_steps}
use Rattle.tool_script.proofs.Pending.{too_long, cut_ahead, cut_at_end, cut_wrong, block_spelled, taken_off, starts_grown}
use Rattle.tool_script.specs.Request.{spelled}
use Rattle.tool_script.specs.Request.PlainRequest.{Update}
use Rattle.tool_script.proofs.reading.take_update.Goals as goal

pub returns-then-size-most-clause-next : goal.returns-then-size-most-clause-next
returns-then-size-most-clause-next g c = too_long _ _ _ _ _ _ c.requires.begun c.if-size-most.true

pub returns-in-Ok-false-clause-next : goal.returns-in-Ok-false-clause-next
returns-in-Ok-false-clause-next g c =
    let e = c.in-Ok-false.ensures in
    let few = e.no c.in-Ok-false.field-0-test in
    cut_at_end c.args.ahead.now c.has_bytes.new.ahead _ _ c.args.n c.args.size c.args.count c.args.most (e.grows (λ h. cc)) c.requires.begun c.requires.few
    c.if-size-most.false few.0 few.1 e.pending

pub returns-in-Err-clause-stopped : goal.returns-in-Err-clause-stopped
returns-in-Err-clause-stopped g c = λ e.
    let k = c.in-Err.ensures in
    cut_ahead c.args.ahead.now c.has_bytes.new.ahead c.args.n c.args.size c.args.count c.args.most (k.grows (λ h. cc)) c.requires.begun c.requires.few
    c.if-size-most.false (k.stopped (cc))

pub returns-then-bytes-want-ne10-clause-next : goal.returns-then-bytes-want-ne10-clause-next
returns-then-bytes-want-ne10-clause-next g c =
    let e = c.in-Ok-true.ensures in
    let wrong : get_or c.has_bytes.new.ahead (c.args.n + c.args.size + 2 - 1) 0 ≡ 10 → ⊥ = grind (arith, common_steps) in
    cut_wrong c.args.ahead.now c.has_bytes.new.ahead _ _ c.args.n c.args.size c.args.count c.args.most (e.grows (λ h. cc)) c.requires.begun c.requires.few
    c.if-size-most.false (e.yes c.in-Ok-true.field-0-test) wrong e.pending

pub returns-clause-next : goal.returns-clause-next
returns-clause-next g c =
    let e = c.in-Ok-true.ensures in
    let last : get_or c.has_bytes.new.ahead (c.args.n + c.args.size + 2 - 1) 0 ≡ 10 = grind (arith, common_steps) in
    let fits : c.args.n + c.args.size + 2 ≤ length c.has_bytes.new.ahead = e.yes c.in-Ok-true.field-0-test in
    let is : c.in_ok-text.text.items ≡ take c.args.size (drop (c.args.n + 1) c.has_bytes.new.ahead) =
    c.in_ok-text.ensures.items ∙ ap (λ k. take k (drop (c.args.n + 1) c.as_slice-bytes.result.now)) (omega arith)
    ∙ ap (λ ys. take c.args.size (drop (c.args.n + 1) ys)) c.as_slice-bytes.ensures in
    let small : length c.in_ok-text.text.items ≤ c.args.most =
    omega (arith, ap length is, length-take c.args.size (drop (c.args.n + 1) c.has_bytes.new.ahead)) in (
      [],
      taken_off c.has_bytes.new.ahead (spelled (Update c.in_ok-text.text.items)) c.skip.new.self _ _ e.pending
          (block_spelled c.has_bytes.new.ahead c.in_ok-text.text.items c.args.n c.args.size (starts_grown _ _ _ _ (e.grows (λ h. cc)) c.requires.begun) fits
          last is
          ∙ ap (λ r. spelled (Update c.in_ok-text.text.items) ++ r) (sym c.skip.ensures)),
      omega (arith, c.requires.room),
      c.requires.few,
      small,
    )
