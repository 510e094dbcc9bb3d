use Rattle.std.proofs.Common.{◌<◌, ◌≤◌, ◌^◌, ℕ, length, subst, sym}
use Rattle.identity_update.specs.Assembled.{assembled}
use Rattle.identity_update.proofs.AssemblyLaws.{assembled_der}
use Rattle.identity_update.proofs.PartsLaws.{does_fit, does_not_fit}
use Rattle.std.proofs.Common.{List}
use Rattle.identity_update.proofs.parts_verdict.check_fits.Goals as goal

pub returns-in-Ok : goal.returns-in-Ok
returns-in-Ok c =
    let is = assembled_der c.args.entries.now c.args.bundles.now c.args.reason in
    sym (does_fit (assembled c.args.entries.now c.args.bundles.now c.args.reason) (subst (λ (x : List ℕ). length x < 2 ^ 32) (sym is) c.in-Ok.ensures.1))

pub returns-in-Err : goal.returns-in-Err
returns-in-Err c =
    let is = assembled_der c.args.entries.now c.args.bundles.now c.args.reason in
    sym (does_not_fit (assembled c.args.entries.now c.args.bundles.now c.args.reason) (subst (λ (x : List ℕ). 2 ^ 32 ≤ length x) (sym is) c.in-Err.ensures.1))
