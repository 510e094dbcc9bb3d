use Rattle.std.proofs.Common.{◌∷◌, ◌++◌, ◌∙◌, [], ap}
use Rattle.tool_commands.proofs.Made.{update_is}
use Rattle.tool_commands.proofs.making.update.Goals as goal

pub returns-in-Ok : goal.returns-in-Ok
returns-in-Ok c =
    update_is c.in_ok-entries.entries.items c.push.new.self.items c.in_ok-bundle.field-0 c.in-Ok.update c.args.n c.in-Ok.ensures.value c.in_ok-entries.ensures
    (c.in_ok-push.ensures.items ∙ ap (λ l. l ++ c.in_ok-bundle.field-0 ∷ []) c.new-bundles.ensures.items) c.in_ok-bundle.ensures
