use Rattle.pkcs8.proofs.WrittenKeys.{written_plain, read_again}
use Rattle.pkcs8.proofs.laws.read_keys_are_read_again.Goals as goal

pub returns-clause-written : goal.returns-clause-written
returns-clause-written c = written_plain

pub returns-clause-one : goal.returns-clause-one
returns-clause-one c = read_again
