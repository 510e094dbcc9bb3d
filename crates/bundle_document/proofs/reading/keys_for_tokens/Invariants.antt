use Rattle.std.proofs.Common.{◌≡◌, ◌++◌, drop, filter, map}
use Rattle.serde_json.specs.View.{view}
use Rattle.bundle_document.specs.Keys.{is_jwt_key}
use Rattle.bundle_document.proofs.reading.keys_for_tokens.Given as goal

abbrev pub invariant-loop-key : goal.invariant-loop-key
invariant-loop-key l = map view l.found.items ++ filter is_jwt_key (map view (drop l.key-index l.keys)) ≡ filter is_jwt_key (map view l.keys)
