use Rattle.base64ct.proofs.TakenLemmas.{consumed}
use Rattle.base64ct.proofs.decoder.DecoderRead.read_exact.Goals as goal

pub returns-clause-bytes : goal.returns-clause-bytes
returns-clause-bytes g c = consumed c.args.self.now c.fill.new.self c.fill.new.out c.in_ok-fill.ensures.items
