use Rattle.std.proofs.Common.{arith, ◌≡◌, ◌-◌, ◌++◌, drop, length, length-append, length-drop, take}
use Rattle.std.proofs.lemmas.List.{length-take-le}
use Rattle.base64ct.proofs.EncoderLemmas.{groups_kept, groups_written, no_group}
use Rattle.base64ct.proofs.WrittenLemmas.{bytes_append, bytes_known, bytes_take}
use Rattle.base64ct.proofs.encoder.encode_groups.Goals as goal

pub returns-then-input-missing-clause-text : goal.returns-then-input-missing-clause-text
returns-then-input-missing-clause-text g c =
    let l = length-append (take c.args.waiting c.args.block.now) c.args.input.now in
    let k = length-take-le c.args.waiting c.args.block.now (omega arith) in
    no_group g.E.Alphabet.form.end g.E.Alphabet.form.table (take c.args.waiting c.args.block.now ++ c.args.input.now) c.args.out.now (omega arith) (omega arith)

pub returns-clause-text : goal.returns-clause-text
returns-clause-text g c =
    let room = c.requires.room in
    let long = c.if-input-missing.false in
    let front : length (take 4 c.args.out.now) ≡ 4 = length-take-le 4 c.args.out.now (omega arith) in
    let whole = length-append c.encode_front.new.dst (drop 4 c.args.out.now) in
    let back : length (drop 4 c.args.out.now) ≡ length c.args.out.now - 4 = length-drop 4 c.args.out.now in
    let d = length-drop 4 (c.encode_front.new.dst ++ drop 4 c.args.out.now) in
    groups_written g.E.Alphabet.form.end g.E.Alphabet.form.table g.E.Alphabet.form.padded c.args.waiting c.encode_front.result c.encode_front-2.result
    c.args.block.now
    c.args.input.now
    c.split_at.result.0.now c.split_at.result.1.now c.split_at-2.result.0.now c.copy_from_slice-2.new.self c.args.out.now c.encode_front.new.dst
    c.encode_front-2.new.dst
    c.requires.waiting (omega arith) c.if-input-missing.false c.requires.room c.split_at.ensures.front c.split_at.ensures.back
    c.copy_from_slice-2.ensures.after c.split_at-2.ensures.front
    c.encode_front.ensures.len c.encode_front.ensures.text (omega arith) c.encode_front-2.ensures.len c.encode_front-2.ensures.text (omega arith)

pub returns-clause-rest : goal.returns-clause-rest
returns-clause-rest g c =
    groups_kept c.args.waiting c.args.block.now c.args.input.now c.split_at.result.0.now c.split_at.result.1.now c.split_at-2.result.1.now
    c.copy_from_slice-3.new.self _
    c.requires.waiting (omega arith) c.if-input-missing.false c.split_at.ensures.front c.split_at.ensures.back c.split_at-2.ensures.back
    c.copy_from_slice-3.ensures.after

pub returns-clause-bytes : goal.returns-clause-bytes
returns-clause-bytes g c =
    bytes_append (take c.args.waiting c.args.block.now) c.args.input.now
    (bytes_take c.args.waiting c.args.block.now (bytes_known c.args.block.now c.fits-block))
    (bytes_known c.args.input.now (λ k. (c.type_inv.input k).fits))

pub returns-then-input-missing-clause-bytes : goal.returns-then-input-missing-clause-bytes
returns-then-input-missing-clause-bytes g c =
    bytes_append (take c.args.waiting c.args.block.now) c.args.input.now
    (bytes_take c.args.waiting c.args.block.now (bytes_known c.args.block.now c.fits-block))
    (bytes_known c.args.input.now (λ k. (c.type_inv.input k).fits))
