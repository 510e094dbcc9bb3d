use Rattle.std.proofs.Common.{ℕ, ◌-◌, false, List, ◌++◌, take, ap, sym, ◌∙◌}
use Rattle.std.proofs.lemmas.List.{take_rest}
use Rattle.base64ct.specs.Walk.{joined_from, has_endings_from}
use Rattle.base64ct.proofs.ReaderLemmas.{line_part}
use Rattle.base64ct.proofs.lines.passed.Goals as goal

pub returns-clause-reader : goal.returns-clause-reader
returns-clause-reader c =
    let p = line_part c.args.reader.width c.args.reader.left c.args.k c.args.reader.text.now c.requires.line c.requires.text in
    record {
      wide = c.requires.reader.wide;
      ends = ap (λ (us : List ℕ). has_endings_from c.args.reader.width (c.args.reader.left - c.args.k) false us) (take_rest c.args.reader.text.now c.args.k)
          ∙ sym p.ends ∙ c.requires.reader.ends;
    }

pub returns-clause-characters : goal.returns-clause-characters
returns-clause-characters c =
    let p = line_part c.args.reader.width c.args.reader.left c.args.k c.args.reader.text.now c.requires.line c.requires.text in
    p.join ∙ ap (λ (us : List ℕ). take c.args.k c.args.reader.text.now ++ joined_from c.args.reader.width (c.args.reader.left - c.args.k) false us)
    (sym (take_rest c.args.reader.text.now c.args.k))
