use Rattle.std.proofs.Common.{◌≡◌, ◌≤◌, drop, fold, false}
use Rattle.serde_json.specs.Data.{items_depth}
use Rattle.serde_json.specs.Read.{max_depth}
use Rattle.serde_json.specs.View.{items_view}
use Rattle.serde_json.specs.Written.{items_have_float}
use Rattle.spiffe_id.specs.Rules.{map_ok}
use Rattle.spiffe_bundle.specs.KeySet.{authorities_of, by_key_id, with_authority}
use Rattle.spiffe_bundle.proofs.jwt_bundle.read_keys.Given as goal

abbrev pub invariant-loop-key : goal.invariant-loop-key
invariant-loop-key l = record {
  domain : l.bundle.trust_domain ≡ l.fn.trust_domain;
  so_far : map_ok by_key_id (authorities_of (items_view l.keys))
      ≡ map_ok (fold with_authority l.bundle.authorities) (authorities_of (items_view (drop l.key-index l.keys)));
  whole : items_have_float (items_view (drop l.key-index l.keys)) ≡ false;
  nests : items_depth (items_view (drop l.key-index l.keys)) ≤ max_depth;
}
