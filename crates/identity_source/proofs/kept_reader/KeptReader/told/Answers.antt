use Rattle.std.proofs.Common.{◌≡◌, ◌≤◌, ◌<◌, Some, refl, sym, ap, ◌∙◌, arith}
use Rattle.identity_source.specs.NamedList.{NamedList}
use Rattle.identity_source.specs.Reader.{plain_reader}
use Rattle.identity_source.proofs.Readers.{heeds_at, keeps_at, along, after_told}
use Rattle.identity_source.proofs.Histories.{ends_at}
use Rattle.identity_source.proofs.kept_reader.KeptReader.told.Goals as goal
use Rattle.identity_source.proofs.kept_reader.KeptReader.told.Goals.{in-Some-1, in-None-1}

pub invariant_of-self-else-revision : goal.invariant_of-self-else-revision
invariant_of-self-else-revision g c =
    let last = c.learn-state.ensures.last in
    let named = c.requires ∙ sym (ap (λ r. r.sight.name) c.self.view_is) in
    let at : c.revision-revision.result ≡ c.learn-state.result.revision = c.revision-revision.ensures.last ∙ ends_at _ _ last in
    let lt : c.learn-state.result.revision < c.self.inside.kept.revision =
    (let p : c.revision-revision.result < c.revision.result = c.if-revision.false in
    let q : c.revision.result ≡ c.self.inside.kept.revision = c.revision.ensures in omega arith) in
    (keeps_at _ _ c.self.inside.kept c.learn-state.result _ c.self.inside.look c.args.receipt _ refl c.self.invariant c.learn-state.ensures.learned named
    c.revision-revision.ensures.history c.revision-revision.ensures.named last lt).is_reader

pub returns-then-revision : goal.returns-then-revision
returns-then-revision g c =
    let last = c.learn-state.ensures.last in
    let named = c.requires ∙ sym (ap (λ r. r.sight.name) c.self.view_is) in
    let at : c.revision-revision.result ≡ c.learn-state.result.revision = c.revision-revision.ensures.last ∙ ends_at _ _ last in
    let le : c.self.inside.kept.revision ≤ c.learn-state.result.revision =
    (let p : c.revision.result ≤ c.revision-revision.result = c.if-revision.true in
    let q : c.revision.result ≡ c.self.inside.kept.revision = c.revision.ensures in omega arith) in
    let is : c.match-self.self ≡ plain_reader (g.W.Window.sight c.learn-state.new.self) c.learn-state.result (Some c.mark-mark.result) c.self.inside.look =
    elim c.match-self.branch [ in-Some-1 w ↦ w.self-is | in-None-1 w ↦ w.self-is ] in
    after_told _ _ _ _ _ c.self.view_is (sym is)
    (heeds_at _ _ c.self.inside.kept c.learn-state.result _ _ c.self.inside.look c.args.receipt _ refl (ap (λ (m : NamedList). Some m) c.mark-mark.ensures)
    c.self.invariant c.learn-state.ensures.learned named c.revision-revision.ensures.history c.revision-revision.ensures.named last le).heard

pub returns-else-revision : goal.returns-else-revision
returns-else-revision g c =
    let last = c.learn-state.ensures.last in
    let named = c.requires ∙ sym (ap (λ r. r.sight.name) c.self.view_is) in
    let at : c.revision-revision.result ≡ c.learn-state.result.revision = c.revision-revision.ensures.last ∙ ends_at _ _ last in
    let lt : c.learn-state.result.revision < c.self.inside.kept.revision =
    (let p : c.revision-revision.result < c.revision.result = c.if-revision.false in
    let q : c.revision.result ≡ c.self.inside.kept.revision = c.revision.ensures in omega arith) in
    along _ _ _ _ c.self.view_is (keeps_at _ _ c.self.inside.kept c.learn-state.result _ c.self.inside.look c.args.receipt _ refl c.self.invariant
    c.learn-state.ensures.learned named c.revision-revision.ensures.history c.revision-revision.ensures.named last lt).heard
