-- What the map has at the path.
use Rattle.std.proofs.Common.{◌≡◌, ◌<◌, ℕ, List, Some, Option, option_map, length, sym, ap, subst, ◌∙◌, arith}
use Rattle.std.specs.Prelude.{IsSomeAnd}
use Rattle.identity_io.specs.Files.{Shelf, file_at}
use Rattle.identity_io.proofs.Shelves.{seen, file_at_seen}
use Rattle.identity_io.proofs.memory_disk.MemoryDiskDisk.read_file.Goals as goal

pub returns-in_default-clause-read : goal.returns-in_default-clause-read
returns-in_default-clause-read c =
    let same : seen c.self.inside.kept.entries ≡ c.args.self.now.files = ap (λ (d : Shelf). d.files) (c.self.view_is ∙ c.if-fails.ensures.after) in
    ap (λ (files : List (List ℕ × List ℕ)). file_at c.args.path.now files) (sym same) ∙ file_at_seen c.args.path.now c.self.inside.kept.entries
    ∙ ap (option_map (λ v. v.items)) (sym c.in_default.ensures.value)

pub returns-then-bytes-gt-LIMIT-clause-read : goal.returns-then-bytes-gt-LIMIT-clause-read
returns-then-bytes-gt-LIMIT-clause-read c =
    let same : seen c.self.inside.kept.entries ≡ c.args.self.now.files = ap (λ (d : Shelf). d.files) (c.self.view_is ∙ c.if-fails.ensures.after) in
    let found : file_at c.args.path.now c.args.self.now.files ≡ Some c.in-Some.found.now.items =
    ap (λ (files : List (List ℕ × List ℕ)). file_at c.args.path.now files) (sym same) ∙ file_at_seen c.args.path.now c.self.inside.kept.entries
    ∙ ap (option_map (λ v. v.items)) (sym c.in-Some.ensures.value) in
    let P : Option (List ℕ) → Type 0 = λ o. IsSomeAnd o (λ bytes. 16777216 < length bytes) in
    let n : length c.as_slice-bytes.result.now ≡ length c.in-Some.found.now.items = ap length c.as_slice-bytes.ensures.value in
    let above : 16777216 < length c.in-Some.found.now.items = omega arith in
    subst P (sym found) above

pub returns-clause-read : goal.returns-clause-read
returns-clause-read c =
    let same : seen c.self.inside.kept.entries ≡ c.args.self.now.files = ap (λ (d : Shelf). d.files) (c.self.view_is ∙ c.if-fails.ensures.after) in
    let found : file_at c.args.path.now c.args.self.now.files ≡ Some c.in-Some.found.now.items =
    ap (λ (files : List (List ℕ × List ℕ)). file_at c.args.path.now files) (sym same) ∙ file_at_seen c.args.path.now c.self.inside.kept.entries
    ∙ ap (option_map (λ v. v.items)) (sym c.in-Some.ensures.value) in
    let items : c.in_ok-from_slice.field-0.items ≡ c.in-Some.found.now.items = c.in_ok-from_slice.ensures.items ∙ c.as_slice-bytes.ensures.value in
    let n : length c.as_slice-bytes.result.now ≡ length c.in-Some.found.now.items = ap length c.as_slice-bytes.ensures.value in
    let m : length c.in_ok-from_slice.field-0.items ≡ length c.in-Some.found.now.items = ap length items in
    (found ∙ ap Some (sym items), omega arith)
