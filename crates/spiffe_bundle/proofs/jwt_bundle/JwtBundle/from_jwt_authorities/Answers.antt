use Rattle.std.proofs.Common.{arith, sym, ◌≤◌}
use Rattle.serde_json.specs.Data.{items_depth, depth}
use Rattle.serde_json.specs.View.{view, items_view}
use Rattle.spiffe_bundle.proofs.KeySets.{keys_whole, keys_nest}
use Rattle.spiffe_bundle.proofs.jwt_bundle.JwtBundle.from_jwt_authorities.Goals as goal

pub read_keys-requires-clause-whole : goal.read_keys-requires-clause-whole
read_keys-requires-clause-whole c =
    rw c.deref.ensures.value (keys_whole (view c.in_ok-value.value) _ (sym c.in_ok-keys.ensures) c.in_ok-value.ensures.whole)

pub read_keys-requires-clause-nests : goal.read_keys-requires-clause-nests
read_keys-requires-clause-nests c =
    let within : items_depth (items_view c.in_ok-keys.keys.now.items) ≤ depth (view c.in_ok-value.value) =
    keys_nest (view c.in_ok-value.value) _ (sym c.in_ok-keys.ensures) in
    rw c.deref.ensures.value (omega (arith, within, c.in_ok-value.ensures.nests))
