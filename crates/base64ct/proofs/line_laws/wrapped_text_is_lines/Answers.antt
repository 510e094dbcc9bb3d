use Rattle.base64ct.proofs.WrappingLemmas.{wrapped_lines}
use Rattle.base64ct.proofs.line_laws.wrapped_text_is_lines.Goals as goal

pub returns : goal.returns
returns c = λ width ending t low some is. wrapped_lines width ending t low some is
