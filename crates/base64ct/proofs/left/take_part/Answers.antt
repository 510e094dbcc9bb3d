use Rattle.std.proofs.Common.{◌≡◌, ℕ, ◌*◌, ◌<◌, ◌≤◌, List, ◌++◌, length, take, arith, ap, sym, ◌∙◌, map, Some, inl, inr}
use Rattle.std.proofs.lemmas.Bool.{cases_lt, cases_eq}
use Rattle.std.proofs.lemmas.List.{take_all}
use Rattle.base64ct.specs.Items.{block_items}
use Rattle.base64ct.specs.Walk.{characters_left, few_bytes}
use Rattle.base64ct.proofs.LeftLemmas.{given_items, length-left}
use Rattle.base64ct.proofs.left.take_part.Goals as goal

pub returns-clause-items : goal.returns-clause-items
returns-clause-items g c =
    let next = c.in_ok-left.left in
    let chars : List ℕ = characters_left c.args.left.reader in
    let room = c.requires.room in
    let all = length-left g.E.Alphabet.form.end g.E.Alphabet.form.table (few_bytes c.args.left.pending) (characters_left c.args.left.reader)
    (few_bytes c.args.left.last) c.args.left.blocks c.requires.left.blocks in
    let none = ap length c.requires.none in
    let few : length c.args.out.now ≤ length (few_bytes c.in_ok-left.left.pending) = elim (cases_eq c.args.left.blocks 0) [
      | inl z ↦ (let same = ap length (c.in_ok-left.ensures.last z) in omega arith)
      | inr some ↦ (let low : 0 < c.args.left.blocks = omega (arith, some) in let three = c.in_ok-left.ensures.block low in let two = c.requires.few low in
          omega arith)
    ] in
    let len : length c.give.new.out ≡ length c.args.out.now = c.give.auto.out in
    let full : length c.give.new.out ≤ c.give.result.1 = elim (cases_lt c.give.result.1 (length c.args.out.now)) [
      | inl lt ↦ (let l = c.give.ensures.all lt in omega arith)
      | inr ge ↦ omega arith
    ] in
    sym c.in_ok-left.ensures.items
    ∙ given_items (few_bytes c.in_ok-left.left.pending) (few_bytes c.give.result.0)
    (block_items g.E.Alphabet.form.end g.E.Alphabet.form.table (take (4 * c.in_ok-left.left.blocks) (characters_left c.in_ok-left.left.reader))
    ++ map Some (few_bytes c.in_ok-left.left.last))
    c.give.result.1 c.give.ensures.kept
    ∙ ap (λ (us : List ℕ). map Some us ++ (map Some (few_bytes c.give.result.0)
    ++ (block_items g.E.Alphabet.form.end g.E.Alphabet.form.table (take (4 * c.in_ok-left.left.blocks) (characters_left c.in_ok-left.left.reader))
    ++ map Some (few_bytes c.in_ok-left.left.last))))
    (sym c.give.ensures.given ∙ take_all c.give.result.1 c.give.new.out full)
