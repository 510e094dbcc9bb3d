use Rattle.spiffe_token.specs.Parts.{parts_of}
use Rattle.spiffe_token.proofs.OneAnswer.{one_answer}
use Rattle.spiffe_token.proofs.laws.token_has_one_answer.Goals as goal

pub returns : goal.returns
returns c = λ token a b first second. one_answer token a b (parts_of token) first second
