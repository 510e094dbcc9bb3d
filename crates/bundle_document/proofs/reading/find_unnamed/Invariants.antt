use Rattle.std.proofs.Common.{◌≡◌, drop, map}
use Rattle.std.specs.List.{position_from}
use Rattle.serde_json.specs.View.{view}
use Rattle.bundle_document.specs.Keys.{is_unnamed}
use Rattle.bundle_document.proofs.reading.find_unnamed.Given as goal

abbrev pub invariant-loop-place : goal.invariant-loop-place
invariant-loop-place l = position_from is_unnamed 0 (map view l.keys) ≡ position_from is_unnamed l.place (map view (drop l.place l.keys))
