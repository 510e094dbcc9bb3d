use Rattle.std.proofs.Common.{ℕ, List, [], refl, ap, ◌∙◌, arith}
use Rattle.der_core.specs.Der.{encode}
use Rattle.identity_update.specs.Assembled.{document_of}
use Rattle.identity_update.proofs.AssemblyLaws.{around, behind, sizes}
use Rattle.identity_update.proofs.assembly.write_document.Goals as goal

pub list_of-requires : goal.list_of-requires
list_of-requires c =
    let s = sizes (document_of c.args.written.now c.args.bundles.now c.args.reason) c.args.written.now (behind c.args.bundles.now c.args.reason) refl in
    let small = c.requires in
    omega (arith, s, small)

pub returns-clause-value : goal.returns-clause-value
returns-clause-value c =
    c.in-Ok.ensures.wrote.ok.1 [] (ap (λ v. v.items) c.behind-writer.ensures.kept ∙ c.clear.ensures.items)
    ∙ ap (λ (x : List ℕ). encode 48 x) (around c.list_of.result c.args.written.now c.args.bundles.now c.args.reason c.list_of.ensures)
