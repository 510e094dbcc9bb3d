-- The words after a program's name.
use Rattle.std.specs.Prelude.{ℕ, List, String, map, string_bytes}
use Rattle.std.specs.Global.{Global}
use Rattle.std.specs.declared.io.ErrorKind.{ErrorKind}
use Rattle.std.specs.declared.io.ErrorKind.TheVariants as kind
use Rattle.command_line.specs.declared.status.Status.{Status}
use Rattle.command_line.specs.declared.status.Status.TheVariants.{OutOfMemory, Usage}

-- the bytes of each word
abbrev pub texts : List (String Global) → List (List ℕ)
texts words = map string_bytes words

-- how the program ends where its words could not be read
abbrev pub unread_status : ErrorKind → Status
unread_status kind.OutOfMemory = OutOfMemory
unread_status _ = Usage
