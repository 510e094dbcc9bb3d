use Rattle.std.proofs.Common.{◌≡◌, ◌++◌, false, true, map}
use Rattle.std.specs.List.{list_all}
use Rattle.std.specs.Map.{values_of}
use Rattle.serde_json.specs.View.{view, items_view}
use Rattle.serde_json.specs.Written.{items_have_float}
use Rattle.bundle_document.specs.Keys.{is_jwt_key, is_named}
use Rattle.bundle_document.specs.Reading.{key_of}
use Rattle.bundle_document.proofs.bundle.keys_of.Given as goal

abbrev pub invariant-loop-authority : goal.invariant-loop-authority
invariant-loop-authority l = record {
  so_far : map view l.keys.items ++ map key_of l.authority-iterator ≡ map key_of (values_of l.fn.bundle.authorities);
  whole : items_have_float (items_view l.keys.items) ≡ false;
  jwt : list_all is_jwt_key (map view l.keys.items) ≡ true;
  named : list_all is_named (map view l.keys.items) ≡ true;
}
