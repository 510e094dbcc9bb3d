use Rattle.std.proofs.Common.{◌≡◌, ◌++◌, ◌∷◌, [], map, rules, arith, ◌∙◌}
use Rattle.pack_manifest.specs.Views.{named_bundle}
use Rattle.identity_update.specs.Bundle.{plain_bundle}
use Rattle.pack_update.specs.Packed.{BundleRules}
use Rattle.pack_update.proofs.Loops.{loop_done, loop_ended, loop_refused}
use Rattle.pack_update.proofs.bundles.read_bundles.Goals as goal

pub loop-number-preserved : goal.loop-number-preserved
loop-number-preserved g c = record {
  told = loop_done named_bundle plain_bundle (λ v. map plain_bundle v) BundleRules
      c.args.named.now c.loop-number.number (record { domain = record { ref_ptr = (0, 0); now = [] }; jwks = record { ref_ptr = (0, 0); now = [] } })
      c.loop-number.bundles.items c.push.new.self.items c.in-Ok.bundle c.loop-number-test.true c.in_ok-push-in-Ok.ensures.items c.loop-number.invariant.told
      c.loop-number.invariant.kept c.in-Ok.ensures.told;
  kept = c.in-Ok.ensures.kept ∙ c.loop-number.invariant.kept;
  later = omega (arith, c.in-Ok.ensures.later, c.loop-number.invariant.later);
}

pub returns-in-Err : goal.returns-in-Err
returns-in-Err g c =
    loop_refused named_bundle plain_bundle (λ v. map plain_bundle v.items) BundleRules
    c.args.named.now c.loop-number.number (record { domain = record { ref_ptr = (0, 0); now = [] }; jwks = record { ref_ptr = (0, 0); now = [] } })
    (map plain_bundle c.loop-number.bundles.items) c.in-Err.error c.loop-number-test.true c.loop-number.invariant.told c.loop-number.invariant.kept
    c.loop-number.invariant.later c.in-Err.ensures

pub returns : goal.returns
returns g c =
    loop_ended named_bundle plain_bundle (λ v. map plain_bundle v.items) BundleRules
    c.args.named.now c.loop-number.number c.loop-number.bundles c.loop-number-test.false c.loop-number.invariant.told c.loop-number.invariant.kept
    c.loop-number.invariant.later
