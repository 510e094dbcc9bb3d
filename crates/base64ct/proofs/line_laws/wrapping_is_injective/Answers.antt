use Rattle.base64ct.proofs.WrappingLemmas.{wrapped-injective}
use Rattle.base64ct.proofs.line_laws.wrapping_is_injective.Goals as goal

pub returns : goal.returns
returns c = λ width ending t u low same. wrapped-injective width ending t u low same
