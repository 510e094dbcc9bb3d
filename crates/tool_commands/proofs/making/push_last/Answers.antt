use Rattle.std.proofs.Common.{◌≡◌, ◌∷◌, ◌∙◌, Some, ap, sym}
use Rattle.std.specs.Prelude.{option_map}
use Rattle.spiffe_id.specs.SpiffeId.{Id}
use Rattle.tool_commands.proofs.Made.{last_of, last_step}
use Rattle.tool_commands.proofs.making.push_last.Goals as goal

pub loop-entry-preserved : goal.loop-entry-preserved
loop-entry-preserved c =
    let steps : c.loop-entry.entry-iterator ≡ c.in-Some.entry ∷ c.next.new.self = c.in-Some.ensures.steps in
    ap (λ (i : Id). last_of (Some i) c.next.new.self) c.id.ensures
    ∙ (sym (ap (λ es. last_of (option_map (λ id. id.now) c.loop-entry.last) es) steps
    ∙ last_step (option_map (λ id. id.now) c.loop-entry.last) c.in-Some.entry c.next.new.self) ∙ c.loop-entry.invariant)
