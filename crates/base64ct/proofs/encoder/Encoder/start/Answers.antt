use Rattle.base64ct.proofs.WrittenLemmas.{start_taken, start_written}
use Rattle.base64ct.proofs.encoder.Encoder.start.Goals as goal

pub invariant_of-result : goal.invariant_of-result
invariant_of-result g c = start_written g.E.Alphabet.form.end g.E.Alphabet.form.table c.args.output.now c.args.wrapper c.requires

pub returns-clause-ok : goal.returns-clause-ok
returns-clause-ok g c = rw (start_taken g.E.Alphabet.form.end g.E.Alphabet.form.table c.args.output.now _ c.args.wrapper)
