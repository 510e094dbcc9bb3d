use Rattle.std.proofs.Common.{Ok}
use Rattle.pack_manifest.specs.Views.{manifest_named}
use Rattle.identity_update.specs.Parts.{UpdateParts}
use Rattle.serde_json.specs.View.{view}
use Rattle.pack_update.specs.Packed.{JsonRule, PackedParts, ShapeRule}
use Rattle.pack_update.specs.Rules.{Then}
use Rattle.pack_update.proofs.Steps.{held, pure}
use Rattle.pack_update.proofs.packing.pack_text.Goals as goal

pub returns-in-Ok-manifest_of : goal.returns-in-Ok-manifest_of
returns-in-Ok-manifest_of g c =
    let text = c.args.text.now in
    let told = g.D.Disk.files c.args.disk.now in
    let faults = g.D.Disk.faults c.args.disk.now in
    let d = view c.in-Ok.value in
    held view (λ (u : UpdateParts). u) (λ _. JsonRule text) (λ files d. Then (ShapeRule text d) (PackedParts files)) c.in-Ok.value c.pack_parts.result
    (pure view (JsonRule text) told faults (Ok c.in-Ok.value) c.in-Ok.ensures (λ e is fault. cc))
    (held manifest_named (λ (u : UpdateParts). u) (λ _. ShapeRule text d) (λ files. PackedParts files) c.in-Ok-manifest_of.manifest c.pack_parts.result
    (pure manifest_named (ShapeRule text d) told faults (Ok c.in-Ok-manifest_of.manifest) c.in-Ok-manifest_of.ensures (λ e is fault. cc))
    c.pack_parts.ensures)
