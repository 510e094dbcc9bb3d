use Rattle.std.proofs.Common.{arith, ap, length, ◌+◌, ◌-◌}
use Rattle.std.proofs.lemmas.Slice.{drop-put_mid}
use Rattle.base64ct.proofs.wrapping.put.Goals as goal

pub returns-clause-back : goal.returns-clause-back
returns-clause-back c =
    let len = ap length c.copy_from_slice.ensures.after in
    drop-put_mid c.args.at (c.args.at + length c.args.bytes.now - c.args.at) c.args.out.now c.copy_from_slice.new.self c.args.kept (omega arith)
    (omega arith) (omega arith)
