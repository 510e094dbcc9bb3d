use Rattle.tool_program.proofs.OneCommand.{one_command}
use Rattle.tool_program.proofs.laws.words_are_one_command.Goals as goal

pub returns : goal.returns
returns c = one_command
