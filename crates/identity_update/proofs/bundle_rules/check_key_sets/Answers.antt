use Rattle.std.proofs.Common.{map}
use Rattle.identity_update.specs.Bundle.{plain_bundle}
use Rattle.identity_update.specs.PartsVerdict.{key_sets_check}
use Rattle.identity_update.specs.Verdict.{IsRefusal}
use Rattle.identity_update.proofs.PartsLaws.{all_more, key_sets_more, key_sets_refused, set_taken}
use Rattle.identity_update.proofs.Results.{passed_on}
use Rattle.identity_update.proofs.bundle_rules.check_key_sets.Goals as goal

pub loop-number-preserved : goal.loop-number-preserved
loop-number-preserved c = record {
  checked = key_sets_more c.loop-number.number c.args.bundles.now c.index-bundles-number.result _ _ c.loop-number-test.true c.index-bundles-number.is
      c.in_ok-keys.ensures.ok c.loop-number.invariant.checked;
  domains = all_more plain_bundle _ c.loop-number.number c.args.bundles.now c.index-bundles-number.result c.loop-number-test.true c.index-bundles-number.is
      c.loop-number.invariant.domains c.in_ok-keys.ensures.domain;
  set = set_taken c.loop-number.number c.args.bundles.now c.index-bundles-number.result c.loop-number.set _ c.in_ok-keys.keys c.loop-number-test.true
      c.index-bundles-number.is c.loop-number.invariant.set c.in_ok-add.ensures.ok c.in_ok-keys.ensures.keys;
}

pub returns-in_err-keys-clause-err : goal.returns-in_err-keys-clause-err
returns-in_err-keys-clause-err c =
    passed_on (IsRefusal (key_sets_check 0 (map plain_bundle c.args.bundles.now))) _ c.in_err-keys.field-0.0 c.from_residual.ensures.1
    (key_sets_refused c.loop-number.number c.args.bundles.now c.index-bundles-number.result _ c.in_err-keys.field-0.0 c.loop-number-test.true
    c.index-bundles-number.is c.in_err-keys.ensures.err c.loop-number.invariant.checked)
