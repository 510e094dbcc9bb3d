-- The map has the new file, and its others as before.
use Rattle.std.proofs.Common.{◌≡◌, ℕ, List, Some, ap, subst, ◌∙◌}
use Rattle.std.specs.BTreeMap as tree
use Rattle.std.specs.Cmp.Lexicographic.{slice_cmp}
use Rattle.std.specs.Ordering.{nat_cmp}
use Rattle.std.specs.String.{string_bytes, string_cmp}
use Rattle.identity_io.specs.Files.{Shelf, file_at}
use Rattle.identity_io.proofs.Shelves.{seen, written_at, others_kept}
use Rattle.identity_io.proofs.memory_disk.MemoryDiskDisk.write_file.Goals as goal

pub returns-in-Ok-clause-wrote : goal.returns-in-Ok-clause-wrote
returns-in-Ok-clause-wrote c =
    let Updates : List ℕ → Type 0 = λ name. tree.UpdatesBy string_cmp (λ k. slice_cmp nat_cmp name (string_bytes k)) c.self.inside.kept c.insert.new.self
    (Some c.in_ok-content.content) in
    let u : Updates c.args.path.now = subst Updates c.in_ok-name.ensures.ok c.in-Ok.ensures.updates in
    let same : seen c.self.inside.kept.entries ≡ c.args.self.now.files = ap (λ (d : Shelf). d.files) (c.self.view_is ∙ c.if-fails.ensures.after) in
    record {
      written = written_at c.args.path.now c.self.inside.kept c.insert.new.self c.in_ok-content.content u ∙ ap Some c.in_ok-content.ensures.items;
      others = λ other apart. others_kept c.args.path.now c.self.inside.kept c.insert.new.self c.in_ok-content.content u other apart
          ∙ ap (λ (files : List (List ℕ × List ℕ)). file_at other files) same;
    }
