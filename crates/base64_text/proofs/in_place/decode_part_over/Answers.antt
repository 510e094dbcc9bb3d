use Rattle.std.proofs.Common.{◌+◌, ◌*◌, ◌-◌, ◌≡◌, length, take, drop, arith, ◌∙◌, length-drop}
use Rattle.std.proofs.lemmas.List.{length-take-le}
use Rattle.std.proofs.lemmas.Slice.{drop-put_mid}
use Rattle.base64_text.proofs.in_place.decode_part_over.Goals as goal

pub returns-clause-rest : goal.returns-clause-rest
returns-clause-rest g c =
    let l = length-drop (3 * c.args.done) c.args.buf.now in
    let within = c.requires.within in
    let wide : length (take (3 * c.args.done + 3 * c.args.count - 3 * c.args.done) (drop (3 * c.args.done) c.args.buf.now)) ≡ 3 * c.args.done
    + 3 * c.args.count - 3 * c.args.done
    = length-take-le (3 * c.args.done + 3 * c.args.count - 3 * c.args.done) (drop (3 * c.args.done) c.args.buf.now) (omega arith) in
    let long : length c.decode_blocks.new.dst ≡ 3 * c.args.done + 3 * c.args.count - 3 * c.args.done = c.decode_blocks.auto.dst ∙ wide in
    drop-put_mid (3 * c.args.done) (3 * c.args.done + 3 * c.args.count - 3 * c.args.done) c.args.buf.now
    c.decode_blocks.new.dst (4 * (c.args.done + c.args.count)) (omega arith) (omega arith) (omega arith)
