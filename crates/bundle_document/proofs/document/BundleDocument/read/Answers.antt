use Rattle.std.proofs.Common.{map, sym}
use Rattle.serde_json.specs.View.{view}
use Rattle.bundle_document.specs.Keys.{is_jwt_key}
use Rattle.bundle_document.proofs.KeyLemmas.{all_named, all_selected, whole_selected}
use Rattle.bundle_document.proofs.ValueLemmas.{keys_are_whole, readable_selected}
use Rattle.bundle_document.proofs.document.BundleDocument.read.Goals as goal

pub with_keys-requires-clause-whole : goal.with_keys-requires-clause-whole
with_keys-requires-clause-whole c =
    rw (c.in_ok-selected.ensures, c.deref-4.ensures.value)
    (whole_selected is_jwt_key (map view c.in_ok-keys.keys.now.items)
    (keys_are_whole (view c.in_ok-value.value) (map view c.in_ok-keys.keys.now.items) (sym c.in_ok-keys.ensures) c.in_ok-value.ensures.whole))

pub with_keys-requires-clause-jwt : goal.with_keys-requires-clause-jwt
with_keys-requires-clause-jwt c = rw c.in_ok-selected.ensures (all_selected is_jwt_key (map view c.deref-4.result.now))

pub with_keys-requires-clause-named : goal.with_keys-requires-clause-named
with_keys-requires-clause-named c = rw (c.in_ok-selected.ensures, c.deref-4.ensures.value)
    (all_named (map view c.in_ok-keys.keys.now.items) (rw c.deref.ensures.value at c.in_ok-check_naming.ensures))

pub returns-clause-readable : goal.returns-clause-readable
returns-clause-readable c =
    rw c.in_ok-document.ensures (readable_selected (view c.in_ok-value.value) (map view c.in_ok-keys.keys.now.items)
    (map view c.in_ok-selected.selected.items) (sym c.in_ok-keys.ensures)
    (rw c.deref-4.ensures.value at c.in_ok-selected.ensures) c.in_ok-value.ensures.nests)
