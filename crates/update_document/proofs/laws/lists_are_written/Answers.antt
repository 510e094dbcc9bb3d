use Rattle.std.proofs.Common.{rules}
use Rattle.update_document.specs.ElementsLaws.{elements_written, elements_read}
use Rattle.update_document.proofs.laws.lists_are_written.Goals as goal

pub returns-clause-written : goal.returns-clause-written
returns-clause-written g c = λ values bytes e. elements_written _ g.T.Encode.encoding (g.met.T.Lawful c.lifetimes (search rules)).reads_encoding values bytes e

pub returns-clause-read : goal.returns-clause-read
returns-clause-read g c = λ values fits. elements_read _ g.T.Encode.encoding (g.met.T.Lawful c.lifetimes (search rules)).encoding_reads values fits
