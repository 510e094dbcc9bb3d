use Rattle.std.proofs.Common.{◌≡◌, [], ◌∷◌, ◌++◌, rules}
use Rattle.identity_update.proofs.BundleLaws.{checked_more, set_more}
use Rattle.identity_update.proofs.bundle_rules.check_bundles.Goals as goal

pub loop-number-preserved : goal.loop-number-preserved
loop-number-preserved c =
    let pushed : c.push.new.self.items ≡ c.loop-number.parts.items ++ c.in_ok-listed.listed ∷ [] = search rules in
    record {
      checked = checked_more c.loop-number.number c.args.bundles.now c.index-bundles-number.result c.loop-number.parts.items c.push.new.self.items
          c.in_ok-listed.listed _ c.loop-number-test.true c.index-bundles-number.is c.in_ok-listed.ensures.ok pushed c.loop-number.invariant.checked;
      set = set_more c.loop-number.set _ c.in_ok-listed.read c.loop-number.parts.items c.push.new.self.items c.in_ok-listed.listed
          c.loop-number.invariant.set c.in_ok-add.ensures.ok c.in_ok-listed.ensures.keys pushed;
    }
