use Rattle.std.proofs.Common.{rules, arith, sym, ap, ◌∙◌, is_some}
use Rattle.left_right.specs.Sides.{view}
use Rattle.identity_io.specs.Causes.{Rose}
use Rattle.identity_source.proofs.Panes.{rises, pane_looks, mapped, fits_at, told_ok, told_err, moved, missed, looked}
use Rattle.identity_source.proofs.pane.PaneWindow.enter.Goals as goal

pub invariant_of-self-then-not-heeds : goal.invariant_of-self-then-not-heeds
invariant_of-self-then-not-heeds c =
    let p = c.self.inside in let r = c.in-Some.reader in let is = sym c.take.ensures.value ∙ c.in-Some.is in
    let b = fits_at p.seated.name p.memo.log p.told _ (view r.place) (mapped p.reader r (λ r. view r.place) is) c.self.invariant in
    let saw = told_ok (view r.place) (view c.glance-reader.result.0.place) c.glance-reader.result.1 c.in-Ok.published c.in-Ok.is c.glance-reader.ensures in
    moved p.seated.name p.memo.log p.told (view r.place) _ c.in-Ok.published b saw.0 saw.1

pub invariant_of-self-in-Ok : goal.invariant_of-self-in-Ok
invariant_of-self-in-Ok c =
    let p = c.self.inside in let r = c.in-Some.reader in let is = sym c.take.ensures.value ∙ c.in-Some.is in
    let b = fits_at p.seated.name p.memo.log p.told _ (view r.place) (mapped p.reader r (λ r. view r.place) is) c.self.invariant in
    let saw = told_ok (view r.place) (view c.glance-reader.result.0.place) c.glance-reader.result.1 c.in-Ok.published c.in-Ok.is c.glance-reader.ensures in
    looked p.seated.name p.memo.log _ p.told (view r.place) _ c.in-Ok.published b saw.0 saw.1 c.if-not-heeds.ensures c.into_snapshot.ensures.history
    c.after_seen.ensures

pub invariant_of-self-in-Err-OutOfMemory : goal.invariant_of-self-in-Err-OutOfMemory
invariant_of-self-in-Err-OutOfMemory c =
    let p = c.self.inside in let r = c.in-Some.reader in let is = sym c.take.ensures.value ∙ c.in-Some.is in
    let b = fits_at p.seated.name p.memo.log p.told _ (view r.place) (mapped p.reader r (λ r. view r.place) is) c.self.invariant in
    missed p.seated.name p.memo.log p.told (view r.place) _ _ b
    (told_err (view r.place) (view c.glance-reader.result.0.place) c.glance-reader.result.1 _ c.in-Err-OutOfMemory.is c.glance-reader.ensures)

pub invariant_of-self-in-Err : goal.invariant_of-self-in-Err
invariant_of-self-in-Err c =
    let p = c.self.inside in let r = c.in-Some.reader in let is = sym c.take.ensures.value ∙ c.in-Some.is in
    let b = fits_at p.seated.name p.memo.log p.told _ (view r.place) (mapped p.reader r (λ r. view r.place) is) c.self.invariant in
    missed p.seated.name p.memo.log p.told (view r.place) _ c.in-Err.missed b
    (told_err (view r.place) (view c.glance-reader.result.0.place) c.glance-reader.result.1 c.in-Err.missed c.in-Err.is c.glance-reader.ensures)

pub returns-else-not-heeds-clause-looked : goal.returns-else-not-heeds-clause-looked
returns-else-not-heeds-clause-looked c =
    let p = c.self.inside in let r = c.in-Some.reader in let is = sym c.take.ensures.value ∙ c.in-Some.is in
    let b = fits_at p.seated.name p.memo.log p.told _ (view r.place) (mapped p.reader r (λ r. view r.place) is) c.self.invariant in
    let saw = told_ok (view r.place) (view c.glance-reader.result.0.place) c.glance-reader.result.1 c.in-Ok.published c.in-Ok.is c.glance-reader.ensures in
    let rose : Rose p.looks c.saturating_add-self-inside-in-Ok.result =
    rises _ _ (let q = c.self.ranges in first_of (search rules, omega arith, assumption q)) c.saturating_add-self-inside-in-Ok.ensures in
    pane_looks p.seated.name p.memo.log c.after_seen.result.log p.told (view r.place) c.in-Ok.published c.into_snapshot.result p.looks
    c.saturating_add-self-inside-in-Ok.result p.misses p.refused (is_some p.reader) _ c.self.view_is (ap is_some is)
    b saw.1 c.if-not-heeds.ensures c.into_snapshot.ensures.history c.into_snapshot.ensures.last rose c.after_seen.ensures
