-- A command as the program has it.
use Rattle.pack_program.specs.Words.{Order}
use Rattle.pack_program.specs.declared.words.Command.{Command}

abbrev pub order_of : Command → Order
order_of command = record { manifest = command.manifest.now; width = command.width }
