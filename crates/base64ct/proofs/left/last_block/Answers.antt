use Rattle.std.proofs.Common.{◌-◌, length, arith, ◌∙◌}
use Rattle.std.proofs.lemmas.List.{take_rest}
use Rattle.base64ct.proofs.ReaderLemmas.{last_characters}
use Rattle.base64ct.proofs.left.last_block.Goals as goal

pub returns-clause-block : goal.returns-clause-block
returns-clause-block c =
    last_characters c.args.line.now c.args.rest.now _ c.copy_from_slice.new.self c.copy_from_slice-2.new.self c.args.len c.min-behind.result
    (omega arith) (omega arith) (omega arith) c.requires.within
    (c.copy_from_slice.ensures.after ∙ take_rest c.args.line.now (length c.args.line.now - (c.args.len - c.min-behind.result)))
    (c.copy_from_slice-2.ensures.after ∙ take_rest c.args.rest.now (length c.args.rest.now - c.min-behind.result))
