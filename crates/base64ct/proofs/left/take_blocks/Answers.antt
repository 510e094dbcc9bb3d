use Rattle.std.proofs.Common.{◌≡◌, ℕ, ◌-◌, ◌*◌, ◌≤◌, List, ◌++◌, length, take, drop, arith, ap, sym, ◌∙◌, map, append-nil, Option, Some, None, Contains}
use Rattle.std.proofs.Common.{length-append, length-drop, subst}
use Rattle.std.proofs.lemmas.List.{drop_all, length-take-le, take_at}
use Rattle.std.proofs.lemmas.Option.{IfSome_then}
use Rattle.base64ct.specs.Items.{block_items}
use Rattle.base64ct.specs.Walk.{characters_left, few_bytes, items_left}
use Rattle.base64ct.proofs.LeftLemmas.{bad_blocks, bad_behind, blocks_taken, IfNone_then, length-left, put_back, two_pieces}
use Rattle.base64ct.proofs.left.take_blocks.Goals as goal

pub returns-then-not-good-clause-bad : goal.returns-then-not-good-clause-bad
returns-then-not-good-clause-bad g c =
    let e : items_left g.E.Alphabet.form.end g.E.Alphabet.form.table c.args.left
    ≡ block_items g.E.Alphabet.form.end g.E.Alphabet.form.table (take (4 * c.args.left.blocks) (characters_left c.args.left.reader))
    ++ (map Some (few_bytes c.args.left.last))
    = ap (λ (us : List ℕ). map Some us ++ (block_items g.E.Alphabet.form.end g.E.Alphabet.form.table
    (take (4 * c.args.left.blocks) (characters_left c.args.left.reader)) ++ (map Some (few_bytes c.args.left.last)))) c.requires.none in
    subst (λ (xs : List (Option ℕ)). Contains (take (length c.args.out.now) xs) None) (sym e)
    (bad_blocks g.E.Alphabet.form.end g.E.Alphabet.form.table (characters_left c.args.left.reader) (map Some (few_bytes c.args.left.last)) c.args.left.blocks
    c.min-whole.result (length c.args.out.now) (omega arith) c.requires.left.blocks (omega arith)
    (sym c.read_blocks-good.ensures.answer ∙ c.if-not-good.true))

pub returns-then-whole-out-clause-items : goal.returns-then-whole-out-clause-items
returns-then-whole-out-clause-items g c =
    let full : length c.args.out.now ≤ 3 * c.min-whole.result = omega (arith, c.if-whole-out.true) in
    let out : c.read_blocks-good.new.out ++ drop (3 * c.min-whole.result) c.args.out.now ≡ c.read_blocks-good.new.out
    = ap (λ (us : List ℕ). c.read_blocks-good.new.out ++ us) (drop_all (3 * c.min-whole.result) c.args.out.now full) ∙ append-nil c.read_blocks-good.new.out in
    ap (λ (us : List ℕ). map Some us ++ (block_items g.E.Alphabet.form.end g.E.Alphabet.form.table
    (take (4 * c.args.left.blocks) (characters_left c.args.left.reader)) ++ (map Some (few_bytes c.args.left.last)))) c.requires.none
    ∙ blocks_taken g.E.Alphabet.form.end g.E.Alphabet.form.table (characters_left c.args.left.reader) (characters_left c.read_blocks-good.result.0)
    c.read_blocks-good.new.out (map Some (few_bytes c.args.left.last)) c.args.left.blocks c.min-whole.result (omega arith) c.requires.left.blocks
    c.read_blocks-good.ensures.characters (sym c.read_blocks-good.ensures.answer ∙ c.if-not-good.false) (c.read_blocks-good.ensures.written c.if-not-good.false)
    ∙ ap (λ (us : List ℕ). map Some c.read_blocks-good.new.out
    ++ (map Some us ++ (block_items g.E.Alphabet.form.end g.E.Alphabet.form.table
    (take (4 * (c.args.left.blocks - c.min-whole.result)) (characters_left c.read_blocks-good.result.0)) ++ (map Some (few_bytes c.args.left.last)))))
    (sym c.requires.none)
    ∙ ap (λ (us : List ℕ). map Some us ++ (map Some (few_bytes c.args.left.pending)
    ++ (block_items g.E.Alphabet.form.end g.E.Alphabet.form.table (take (4 * (c.args.left.blocks - c.min-whole.result))
    (characters_left c.read_blocks-good.result.0)) ++ (map Some (few_bytes c.args.left.last))))) (sym out)

pub take_part-requires-clause-room : goal.take_part-requires-clause-room
take_part-requires-clause-room g c κs within =
    let len : length c.read_blocks-good.new.out ≡ 3 * c.min-whole.result = c.read_blocks-good.auto.out
    ∙ length-take-le (3 * c.min-whole.result) c.args.out.now (omega arith) in
    let cut : length (drop (3 * c.min-whole.result) c.args.out.now) ≡ length c.args.out.now - 3 * c.min-whole.result =
    length-drop (3 * c.min-whole.result) c.args.out.now in
    let out : length (c.read_blocks-good.new.out ++ drop (3 * c.min-whole.result) c.args.out.now) ≡ length c.args.out.now =
    length-append c.read_blocks-good.new.out (drop (3 * c.min-whole.result) c.args.out.now) ∙ omega arith in
    let back : length (drop (3 * c.min-whole.result) (c.read_blocks-good.new.out ++ drop (3 * c.min-whole.result) c.args.out.now))
    ≡ length c.args.out.now - 3 * c.min-whole.result
    = length-drop (3 * c.min-whole.result) (c.read_blocks-good.new.out ++ drop (3 * c.min-whole.result) c.args.out.now) ∙ omega arith in
    let chars = ap length c.read_blocks-good.ensures.characters ∙ length-drop (4 * c.min-whole.result) (characters_left c.args.left.reader) in
    let fits = c.requires.left.blocks in
    let was = length-left g.E.Alphabet.form.end g.E.Alphabet.form.table (few_bytes c.args.left.pending) (characters_left c.args.left.reader)
    (few_bytes c.args.left.last) c.args.left.blocks c.requires.left.blocks in
    let now = length-left g.E.Alphabet.form.end g.E.Alphabet.form.table (few_bytes c.args.left.pending) (characters_left c.read_blocks-good.result.0)
    (few_bytes c.args.left.last) (c.args.left.blocks - c.min-whole.result) (omega arith) in
    let room = c.requires.room in
    let part = length-take-le (length (c.read_blocks-good.new.out ++ drop (3 * c.min-whole.result) c.args.out.now) - 3 * c.min-whole.result)
    (drop (3 * c.min-whole.result) (c.read_blocks-good.new.out ++ drop (3 * c.min-whole.result) c.args.out.now)) (omega arith) in
    omega arith

pub returns-clause-items : goal.returns-clause-items
returns-clause-items g c =
    let len : length c.read_blocks-good.new.out ≡ 3 * c.min-whole.result = c.read_blocks-good.auto.out
    ∙ length-take-le (3 * c.min-whole.result) c.args.out.now (omega arith) in
    let first = ap (λ (us : List ℕ). map Some us ++ (block_items g.E.Alphabet.form.end g.E.Alphabet.form.table
    (take (4 * c.args.left.blocks) (characters_left c.args.left.reader)) ++ (map Some (few_bytes c.args.left.last)))) c.requires.none
    ∙ blocks_taken g.E.Alphabet.form.end g.E.Alphabet.form.table (characters_left c.args.left.reader) (characters_left c.read_blocks-good.result.0)
    c.read_blocks-good.new.out (map Some (few_bytes c.args.left.last)) c.args.left.blocks c.min-whole.result (omega arith) c.requires.left.blocks
    c.read_blocks-good.ensures.characters (sym c.read_blocks-good.ensures.answer ∙ c.if-not-good.false) (c.read_blocks-good.ensures.written c.if-not-good.false)
    ∙ ap (λ (us : List ℕ). map Some c.read_blocks-good.new.out
    ++ (map Some us ++ (block_items g.E.Alphabet.form.end g.E.Alphabet.form.table
    (take (4 * (c.args.left.blocks - c.min-whole.result)) (characters_left c.read_blocks-good.result.0)) ++ (map Some (few_bytes c.args.left.last)))))
    (sym c.requires.none) in
    IfSome_then c.take_part.result c.take_part.ensures.items (λ next is. two_pieces _ _ _ c.read_blocks-good.new.out c.take_part.new.out _ first is
    (put_back (3 * c.min-whole.result) (c.read_blocks-good.new.out ++ drop (3 * c.min-whole.result) c.args.out.now) c.take_part.new.out
    ∙ ap (λ (us : List ℕ). us ++ c.take_part.new.out) (take_at c.read_blocks-good.new.out (drop (3 * c.min-whole.result) c.args.out.now)
    (3 * c.min-whole.result) len)))

pub returns-clause-bad : goal.returns-clause-bad
returns-clause-bad g c =
    let len : length c.read_blocks-good.new.out ≡ 3 * c.min-whole.result = c.read_blocks-good.auto.out
    ∙ length-take-le (3 * c.min-whole.result) c.args.out.now (omega arith) in
    let cut : length (drop (3 * c.min-whole.result) c.args.out.now) ≡ length c.args.out.now - 3 * c.min-whole.result =
    length-drop (3 * c.min-whole.result) c.args.out.now in
    let out : length (c.read_blocks-good.new.out ++ drop (3 * c.min-whole.result) c.args.out.now) ≡ length c.args.out.now =
    length-append c.read_blocks-good.new.out (drop (3 * c.min-whole.result) c.args.out.now) ∙ omega arith in
    let back : length (drop (3 * c.min-whole.result) (c.read_blocks-good.new.out ++ drop (3 * c.min-whole.result) c.args.out.now))
    ≡ length c.args.out.now - 3 * c.min-whole.result
    = length-drop (3 * c.min-whole.result) (c.read_blocks-good.new.out ++ drop (3 * c.min-whole.result) c.args.out.now) ∙ omega arith in
    let part = length-take-le (length (c.read_blocks-good.new.out ++ drop (3 * c.min-whole.result) c.args.out.now) - 3 * c.min-whole.result)
    (drop (3 * c.min-whole.result) (c.read_blocks-good.new.out ++ drop (3 * c.min-whole.result) c.args.out.now)) (omega arith) in
    let first = ap (λ (us : List ℕ). map Some us ++ (block_items g.E.Alphabet.form.end g.E.Alphabet.form.table
    (take (4 * c.args.left.blocks) (characters_left c.args.left.reader)) ++ (map Some (few_bytes c.args.left.last)))) c.requires.none
    ∙ blocks_taken g.E.Alphabet.form.end g.E.Alphabet.form.table (characters_left c.args.left.reader) (characters_left c.read_blocks-good.result.0)
    c.read_blocks-good.new.out (map Some (few_bytes c.args.left.last)) c.args.left.blocks c.min-whole.result (omega arith) c.requires.left.blocks
    c.read_blocks-good.ensures.characters (sym c.read_blocks-good.ensures.answer ∙ c.if-not-good.false) (c.read_blocks-good.ensures.written c.if-not-good.false)
    ∙ ap (λ (us : List ℕ). map Some c.read_blocks-good.new.out
    ++ (map Some us ++ (block_items g.E.Alphabet.form.end g.E.Alphabet.form.table
    (take (4 * (c.args.left.blocks - c.min-whole.result)) (characters_left c.read_blocks-good.result.0)) ++ (map Some (few_bytes c.args.left.last)))))
    (sym c.requires.none) in
    IfNone_then c.take_part.result c.take_part.ensures.bad (λ bad. bad_behind _ _ c.read_blocks-good.new.out _ (length c.args.out.now) first (omega arith) bad)
