use Rattle.std.proofs.Common.{◌<◌, length, rules, sym, ◌∙◌}
use Rattle.base64ct.proofs.ReaderLemmas.{last_ending}
use Rattle.base64ct.proofs.lines.ends_in_break.Goals as goal

pub returns : goal.returns
returns c =
    let some : 0 < length c.args.text.now = search rules in
    c.is_break.ensures ∙ sym (last_ending c.args.text.now some)
