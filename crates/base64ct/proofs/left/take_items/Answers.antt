use Rattle.std.proofs.Common.{◌≡◌, ℕ, ◌-◌, ◌*◌, ◌≤◌, List, ◌++◌, length, take, drop, arith, ap, sym, ◌∙◌, map, Some, length-drop}
use Rattle.std.proofs.lemmas.List.{take_all, length-take-le}
use Rattle.std.proofs.lemmas.Option.{IfSome_then}
use Rattle.base64ct.specs.Items.{block_items}
use Rattle.base64ct.specs.Walk.{characters_left, few_bytes}
use Rattle.base64ct.proofs.LeftLemmas.{bad_behind, given_items, IfNone_then, put_back, two_pieces}
use Rattle.base64ct.proofs.left.take_items.Goals as goal

pub returns-then-n-out-clause-items : goal.returns-then-n-out-clause-items
returns-then-n-out-clause-items g c =
    let full : length c.give-n.new.out ≤ c.give-n.result.1 = omega (arith, c.if-n-out.true) in
    given_items (few_bytes c.args.left.pending) (few_bytes c.give-n.result.0)
    (block_items g.E.Alphabet.form.end g.E.Alphabet.form.table (take (4 * c.args.left.blocks) (characters_left c.args.left.reader))
    ++ (map Some (few_bytes c.args.left.last))) c.give-n.result.1 c.give-n.ensures.kept
    ∙ ap (λ (us : List ℕ). map Some us ++ (map Some (few_bytes c.give-n.result.0)
    ++ (block_items g.E.Alphabet.form.end g.E.Alphabet.form.table (take (4 * c.args.left.blocks) (characters_left c.args.left.reader))
    ++ (map Some (few_bytes c.args.left.last))))) (sym c.give-n.ensures.given ∙ take_all c.give-n.result.1 c.give-n.new.out full)

pub returns-clause-items : goal.returns-clause-items
returns-clause-items g c =
    IfSome_then c.take_blocks.result c.take_blocks.ensures.items
    (λ next is. two_pieces _ _ _ (take c.give-n.result.1 (few_bytes c.args.left.pending)) c.take_blocks.new.out _
    (given_items (few_bytes c.args.left.pending) (few_bytes c.give-n.result.0)
    (block_items g.E.Alphabet.form.end g.E.Alphabet.form.table (take (4 * c.args.left.blocks) (characters_left c.args.left.reader))
    ++ (map Some (few_bytes c.args.left.last))) c.give-n.result.1 c.give-n.ensures.kept) is
    (put_back c.give-n.result.1 c.give-n.new.out c.take_blocks.new.out ∙ ap (λ (us : List ℕ). us ++ c.take_blocks.new.out) c.give-n.ensures.given))

pub returns-clause-bad : goal.returns-clause-bad
returns-clause-bad g c =
    let within = c.give-n.ensures.within in
    let w0 = within.0 in
    let few = length-take-le c.give-n.result.1 (few_bytes c.args.left.pending) within.1 in
    let len : length c.give-n.new.out ≡ length c.args.out.now = c.give-n.auto.out in
    let cut = length-drop c.give-n.result.1 c.give-n.new.out in
    let part = length-take-le (length c.give-n.new.out - c.give-n.result.1) (drop c.give-n.result.1 c.give-n.new.out) (omega arith) in
    IfNone_then c.take_blocks.result c.take_blocks.ensures.bad
    (λ bad. bad_behind _ _ (take c.give-n.result.1 (few_bytes c.args.left.pending)) _ (length c.args.out.now)
    (given_items (few_bytes c.args.left.pending) (few_bytes c.give-n.result.0)
    (block_items g.E.Alphabet.form.end g.E.Alphabet.form.table (take (4 * c.args.left.blocks) (characters_left c.args.left.reader))
    ++ (map Some (few_bytes c.args.left.last))) c.give-n.result.1 c.give-n.ensures.kept) (omega arith) bad)
