use Rattle.std.proofs.Common.{◌≡◌, ◌++◌, map, drop, option_map, string_bytes}
use Rattle.serde_json.specs.View.{items_view}
use Rattle.spiffe_token.specs.Claims.{texts_of}
use Rattle.spiffe_token.proofs.claims.all_texts.Given as goal

abbrev pub invariant-loop-item : goal.invariant-loop-item
invariant-loop-item l = texts_of (items_view l.items) ≡ option_map (λ more. map string_bytes l.texts.items ++ more)
    (texts_of (items_view (drop l.item-index l.items)))
