use Rattle.std.proofs.Common.{◌≡◌, Ok, List, ℕ, subst, sym}
use Rattle.update_document.specs.Written.{ReadsUpdate}
use Rattle.identity_update.specs.Canonical.{canonical}
use Rattle.identity_update.specs.Kept.{kept_update}
use Rattle.identity_update.specs.Parts.{UpdateParts}
use Rattle.identity_update.specs.Verdict.{verdict}
use Rattle.identity_update.proofs.CanonicalReads.{kept_reads}
use Rattle.identity_update.proofs.CanonicalVerdict.{lawful_verdict}
use Rattle.identity_update.proofs.update.Update.document.Goals as goal

pub returns-clause-reads : goal.returns-clause-reads
returns-clause-reads c =
    let u = c.self.inside in
    let reads = kept_reads u.document.items u.identities u.entries.items u.bundles.items u.set u.reason c.self.invariant in
    let here : ReadsUpdate c.deref.result.now (canonical (kept_update u.document.items u.identities u.entries.items u.bundles.items u.reason)) =
    subst (λ (d : List ℕ). ReadsUpdate d (canonical (kept_update u.document.items u.identities u.entries.items u.bundles.items u.reason)))
    (sym c.deref.ensures.value) reads in
    subst (λ (v : UpdateParts). ReadsUpdate c.deref.result.now (canonical v)) c.self.view_is here

pub returns-clause-lawful : goal.returns-clause-lawful
returns-clause-lawful c = subst (λ (v : UpdateParts). verdict (canonical v) ≡ Ok v) c.self.view_is (lawful_verdict _ c.self.invariant.lawful)
