use Rattle.std.proofs.Common.{◌≡◌, ◌+◌, ◌-◌, ◌*◌, ◌/◌, ◌<◌, false, length, take, drop, arith, refl, ap, sym, ◌∙◌}
use Rattle.std.proofs.lemmas.List.{length-take-le}
use Rattle.base64_alphabet.specs.Encoding.{encoding_of}
use Rattle.base64_alphabet.proofs.TableLemmas.{facts}
use Rattle.base64_text.specs.LastBlock.{last_at}
use Rattle.base64ct.specs.Lines.{joined}
use Rattle.base64ct.specs.Walk.{few_bytes, joined_from}
use Rattle.base64ct.proofs.BeginLemmas.{block_at, cut_joined, first_items, no_end, no_endings}
use Rattle.base64ct.proofs.LeftLemmas.{length-left}
use Rattle.base64ct.proofs.left.begin.Goals as goal

pub returns-in_default-clause-err : goal.returns-in_default-clause-err
returns-in_default-clause-err g c ends canonical = no_endings c.args.width c.args.text.now (let w = c.requires.width in omega arith)
    c.in_default.ensures.none ends

pub overflow_sub-blocks : goal.overflow_sub-blocks
overflow_sub-blocks g c =
    let j = cut_joined c.args.width c.in-Some.cut.count c.args.text.now c.in-Some.cut.line.now c.in-Some.cut.rest.now c.requires.width c.requires.some
    c.in-Some.ensures.some c.in-Some.ensures.last in
    let some = j.some in
    omega arith

pub decode_last-requires-clause-some : goal.decode_last-requires-clause-some
decode_last-requires-clause-some g c κs within =
    let j = cut_joined c.args.width c.in-Some.cut.count c.args.text.now c.in-Some.cut.line.now c.in-Some.cut.rest.now c.requires.width c.requires.some
    c.in-Some.ensures.some c.in-Some.ensures.last in
    let b = block_at c.args.width c.in-Some.cut.count (c.in-Some.cut.count
    + length c.in-Some.cut.rest.now - 4 * ((c.in-Some.cut.count + length c.in-Some.cut.rest.now - 1) / 4)) c.args.text.now c.in-Some.cut.line.now
    c.in-Some.cut.rest.now j refl in
    let long = c.last_block-block.ensures.long in
    let most = b.0 in
    let some = b.1 in
    let len = length-take-le (c.in-Some.cut.count + length c.in-Some.cut.rest.now - 4 * ((c.in-Some.cut.count + length c.in-Some.cut.rest.now - 1) / 4))
    c.last_block-block.result (omega arith) in
    omega arith

pub returns-in_default-decode_last-clause-err : goal.returns-in_default-decode_last-clause-err
returns-in_default-decode_last-clause-err g c ends canonical =
    let j = cut_joined c.args.width c.in-Some.cut.count c.args.text.now c.in-Some.cut.line.now c.in-Some.cut.rest.now c.requires.width c.requires.some
    c.in-Some.ensures.some c.in-Some.ensures.last in
    let b = block_at c.args.width c.in-Some.cut.count (c.in-Some.cut.count
    + length c.in-Some.cut.rest.now - 4 * ((c.in-Some.cut.count + length c.in-Some.cut.rest.now - 1) / 4)) c.args.text.now c.in-Some.cut.line.now
    c.in-Some.cut.rest.now j refl in
    let block : take (c.in-Some.cut.count + length c.in-Some.cut.rest.now - 4 * ((c.in-Some.cut.count + length c.in-Some.cut.rest.now - 1) / 4))
    c.last_block-block.result ≡ drop (last_at (length (joined c.args.width c.args.text.now))) (joined c.args.width c.args.text.now) =
    c.last_block-block.ensures.block ∙ b.3 in
    no_end g.E.Alphabet.form.end g.E.Alphabet.form.table g.E.Alphabet.form.padded (joined c.args.width c.args.text.now)
    (take (c.in-Some.cut.count + length c.in-Some.cut.rest.now - 4 * ((c.in-Some.cut.count + length c.in-Some.cut.rest.now - 1) / 4))
    c.last_block-block.result) block c.in_default-decode_last.ensures.none canonical

pub returns-clause-left : goal.returns-clause-left
returns-clause-left g c =
    let j = cut_joined c.args.width c.in-Some.cut.count c.args.text.now c.in-Some.cut.line.now c.in-Some.cut.rest.now c.requires.width c.requires.some
    c.in-Some.ensures.some c.in-Some.ensures.last in
    let w = c.requires.width in
    let len = sym (ap length j.walk) ∙ j.len in
    let some = j.some in
    record {
      reader = record { wide = omega arith; ends = j.walk_ends };
      blocks = omega arith;
      pending = c.no_bytes.ensures.few;
      last = record { start = omega arith; end = c.in-Some-decode_last.ensures.most };
    }

pub returns-clause-items : goal.returns-clause-items
returns-clause-items g c =
    let j = cut_joined c.args.width c.in-Some.cut.count c.args.text.now c.in-Some.cut.line.now c.in-Some.cut.rest.now c.requires.width c.requires.some
    c.in-Some.ensures.some c.in-Some.ensures.last in
    let b = block_at c.args.width c.in-Some.cut.count (c.in-Some.cut.count
    + length c.in-Some.cut.rest.now - 4 * ((c.in-Some.cut.count + length c.in-Some.cut.rest.now - 1) / 4)) c.args.text.now c.in-Some.cut.line.now
    c.in-Some.cut.rest.now j refl in
    let block : take (c.in-Some.cut.count + length c.in-Some.cut.rest.now - 4 * ((c.in-Some.cut.count + length c.in-Some.cut.rest.now - 1) / 4))
    c.last_block-block.result ≡ drop (last_at (length (joined c.args.width c.args.text.now))) (joined c.args.width c.args.text.now) =
    c.last_block-block.ensures.block ∙ b.3 in
    let is : drop (last_at (length (joined c.args.width c.args.text.now))) (joined c.args.width c.args.text.now)
    ≡ encoding_of g.E.Alphabet.form (take c.in-Some-decode_last.end c.decode_last.new.out)
    = sym block ∙ c.in-Some-decode_last.ensures.some in
    let len = j.len in
    let some = j.some in
    let low : 0 < length (joined c.args.width c.args.text.now) = omega arith in
    first_items g.E.Alphabet.form.end g.E.Alphabet.form.table g.E.Alphabet.form.padded (joined c.args.width c.args.text.now)
    (joined_from c.args.width c.args.width false c.args.text.now)
    (few_bytes c.no_bytes.result) (take c.in-Some-decode_last.end c.decode_last.new.out) ((c.in-Some.cut.count + length c.in-Some.cut.rest.now - 1) / 4)
    (facts g.E.Alphabet.form.table g.met.E.Alphabet.lawful)
    low j.walk (ap (λ n. (n - 1) / 4) (sym len)) c.no_bytes.ensures.none c.in-Some-decode_last.ensures.bytes is

pub returns-clause-len : goal.returns-clause-len
returns-clause-len g c =
    let j = cut_joined c.args.width c.in-Some.cut.count c.args.text.now c.in-Some.cut.line.now c.in-Some.cut.rest.now c.requires.width c.requires.some
    c.in-Some.ensures.some c.in-Some.ensures.last in
    let chars = sym (ap length j.walk) ∙ j.len in
    let some = j.some in
    let none = ap length c.no_bytes.ensures.none in
    let most = c.in-Some-decode_last.ensures.most in
    let three : length c.decode_last.new.out ≡ 3 = c.decode_last.array_long in
    let last = length-take-le c.in-Some-decode_last.end c.decode_last.new.out (omega arith) in
    let all = length-left g.E.Alphabet.form.end g.E.Alphabet.form.table (few_bytes c.no_bytes.result)
    (joined_from c.args.width c.args.width false c.args.text.now)
    (take c.in-Some-decode_last.end c.decode_last.new.out)
    ((c.in-Some.cut.count + length c.in-Some.cut.rest.now - 1) / 4) (omega arith) in
    omega arith

pub returns-clause-endings : goal.returns-clause-endings
returns-clause-endings g c = (cut_joined c.args.width c.in-Some.cut.count c.args.text.now c.in-Some.cut.line.now c.in-Some.cut.rest.now c.requires.width
    c.requires.some c.in-Some.ensures.some c.in-Some.ensures.last).ends

pub returns-clause-canonical : goal.returns-clause-canonical
returns-clause-canonical g c =
    let j = cut_joined c.args.width c.in-Some.cut.count c.args.text.now c.in-Some.cut.line.now c.in-Some.cut.rest.now c.requires.width c.requires.some
    c.in-Some.ensures.some c.in-Some.ensures.last in
    let b = block_at c.args.width c.in-Some.cut.count (c.in-Some.cut.count
    + length c.in-Some.cut.rest.now - 4 * ((c.in-Some.cut.count + length c.in-Some.cut.rest.now - 1) / 4)) c.args.text.now c.in-Some.cut.line.now
    c.in-Some.cut.rest.now j refl in
    let block : take (c.in-Some.cut.count + length c.in-Some.cut.rest.now - 4 * ((c.in-Some.cut.count + length c.in-Some.cut.rest.now - 1) / 4))
    c.last_block-block.result ≡ drop (last_at (length (joined c.args.width c.args.text.now))) (joined c.args.width c.args.text.now) =
    c.last_block-block.ensures.block ∙ b.3 in
    let is : drop (last_at (length (joined c.args.width c.args.text.now))) (joined c.args.width c.args.text.now)
    ≡ encoding_of g.E.Alphabet.form (take c.in-Some-decode_last.end c.decode_last.new.out)
    = sym block ∙ c.in-Some-decode_last.ensures.some in
    (take c.in-Some-decode_last.end c.decode_last.new.out, c.in-Some-decode_last.ensures.bytes, is)
