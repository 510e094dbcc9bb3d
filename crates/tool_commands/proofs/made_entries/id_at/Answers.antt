use Rattle.std.proofs.Common.{◌≡◌, ◌∷◌, ◌++◌, ◌∙◌, [], List, ℕ, ap, codes, decimal, map, string_bytes}
use Rattle.tool_commands.proofs.Made.{id_is}
use Rattle.tool_commands.proofs.made_entries.id_at.Goals as goal

pub returns-in-Ok : goal.returns-in-Ok
returns-in-Ok c =
    let w = c.in_ok-from_str.field-0 in
    let number = c.in_ok-format.field-0 in
    let items = c.deref.ensures.value ∙ (c.in_ok-push-2.ensures.items
    ∙ ap (λ l. l ++ number ∷ []) (c.in_ok-push.ensures.items ∙ ap (λ l. l ++ w ∷ []) c.new-segments.ensures.items)) in
    id_is c.in_ok-domain.domain (map string_bytes c.deref.result.now) c.in-Ok.id c.args.n c.in-Ok.ensures.ok c.in_ok-domain.ensures
    (ap (λ l. map string_bytes l) items ∙ (ap (λ (t : List ℕ). t ∷ string_bytes number ∷ []) c.in_ok-from_str.ensures.ok
    ∙ ap (λ (t : List ℕ). codes "w" ∷ t ∷ []) c.in_ok-format.ensures.ok))
