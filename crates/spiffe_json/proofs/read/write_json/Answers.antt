use Rattle.spiffe_json.proofs.Reading.{whole_json_found}
use Rattle.spiffe_json.proofs.read.write_json.Goals as goal

pub returns-clause-reads : goal.returns-clause-reads
returns-clause-reads c = λ nests. whole_json_found _ _ c.in_ok-bytes.ensures.utf8 (c.in_ok-bytes.ensures.reads_back nests) c.requires.whole
