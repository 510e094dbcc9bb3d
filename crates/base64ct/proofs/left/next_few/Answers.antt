use Rattle.std.proofs.Common.{◌≡◌, ℕ, ◌-◌, ◌*◌, ◌<◌, true, false, List, ◌++◌, length, take, arith, ap, sym, ◌∙◌, map, Option, Some, None, Contains, subst}
use Rattle.std.proofs.lemmas.List.{take_all}
use Rattle.base64_alphabet.specs.Table.{all_in}
use Rattle.base64ct.specs.Items.{block_items}
use Rattle.base64ct.specs.Walk.{characters_left, few_bytes, items_left}
use Rattle.base64ct.proofs.LeftLemmas.{last_few, bad_first, in_front, blocks_front, blocks_taken}
use Rattle.base64ct.proofs.left.next_few.Goals as goal

pub returns-then-left-eq0-clause-items : goal.returns-then-left-eq0-clause-items
returns-then-left-eq0-clause-items g c =
    last_few g.E.Alphabet.form.end g.E.Alphabet.form.table (characters_left c.args.left.reader) (few_bytes c.args.left.pending) (few_bytes c.no_bytes.result)
    (few_bytes c.args.left.last) c.args.left.blocks
    c.if-left-eq0.true c.requires.none c.no_bytes.ensures.none

pub returns-then-not-decode_front-clause-bad : goal.returns-then-not-decode_front-clause-bad
returns-then-not-decode_front-clause-bad g c =
    let chars : List ℕ = characters_left c.args.left.reader in
    let b : ℕ = c.args.left.blocks in
    let last : List (Option ℕ) = map Some (few_bytes c.args.left.last) in
    let f = in_front (characters_left c.args.left.reader) c.next_block.result.0 (characters_left c.next_block.result.1) 4 c.next_block.ensures.characters
    c.next_block.ensures.long in
    let bad : all_in g.E.Alphabet.form.table (take 4 (characters_left c.args.left.reader)) ≡ false = ap (all_in g.E.Alphabet.form.table) f.first
    ∙ sym c.decode_front.ensures.answer ∙ c.if-not-decode_front.true in
    let some : 0 < c.args.left.blocks = omega (arith, c.if-left-eq0.false) in
    let e : items_left g.E.Alphabet.form.end g.E.Alphabet.form.table c.args.left
    ≡ block_items g.E.Alphabet.form.end g.E.Alphabet.form.table (take (4 * c.args.left.blocks) (characters_left c.args.left.reader))
    ++ map Some (few_bytes c.args.left.last)
    = ap (λ (us : List ℕ). map Some us ++ (block_items g.E.Alphabet.form.end g.E.Alphabet.form.table
    (take (4 * c.args.left.blocks) (characters_left c.args.left.reader)) ++ map Some (few_bytes c.args.left.last))) c.requires.none in
    subst (λ (xs : List (Option ℕ)). Contains (take 1 xs) None) (sym e)
    (bad_first g.E.Alphabet.form.end g.E.Alphabet.form.table (characters_left c.args.left.reader) (map Some (few_bytes c.args.left.last)) c.args.left.blocks
    some
    c.requires.left.blocks bad)

pub returns-clause-items : goal.returns-clause-items
returns-clause-items g c =
    let f = in_front (characters_left c.args.left.reader) c.next_block.result.0 (characters_left c.next_block.result.1) 4 c.next_block.ensures.characters
    c.next_block.ensures.long in
    let good = c.if-not-decode_front.false in
    let text : all_in g.E.Alphabet.form.table c.next_block.result.0 ≡ true = sym c.decode_front.ensures.answer ∙ c.if-not-decode_front.false in
    let len : length c.decode_front.new.dst ≡ 3 = c.decode_front.auto.dst in
    let whole : take 3 c.decode_front.new.dst ≡ c.decode_front.new.dst = take_all 3 c.decode_front.new.dst (omega arith) in
    let some : 0 < c.args.left.blocks = omega (arith, c.if-left-eq0.false) in
    let bytes = blocks_front g.E.Alphabet.form.end g.E.Alphabet.form.table c.next_block.result.0 (characters_left c.args.left.reader) c.decode_front.new.dst _ 1
    c.next_block.ensures.long (c.decode_front.ensures.written text) f.first in
    ap (λ (us : List ℕ). map Some us ++ (block_items g.E.Alphabet.form.end g.E.Alphabet.form.table
    (take (4 * (c.args.left.blocks - 1)) (characters_left c.next_block.result.1)) ++ map Some (few_bytes c.args.left.last))) whole
    ∙ sym (ap (λ (us : List ℕ). map Some us ++ (block_items g.E.Alphabet.form.end g.E.Alphabet.form.table
    (take (4 * c.args.left.blocks) (characters_left c.args.left.reader)) ++ map Some (few_bytes c.args.left.last))) c.requires.none
    ∙ blocks_taken g.E.Alphabet.form.end g.E.Alphabet.form.table (characters_left c.args.left.reader) (characters_left c.next_block.result.1)
    c.decode_front.new.dst
    (map Some (few_bytes c.args.left.last)) c.args.left.blocks 1
    (omega arith) c.requires.left.blocks f.rest (ap (all_in g.E.Alphabet.form.table) f.first ∙ text) (sym whole ∙ bytes))
